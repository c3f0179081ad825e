use Rattle.sharing.proofs.StoreLaws.{zeros}
use Rattle.sharing.proofs.storing.put_zeros.Goals as goal

pub loop-k-preserved : goal.loop-k-preserved
loop-k-preserved c = search zeros
