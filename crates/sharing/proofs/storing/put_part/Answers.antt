use Rattle.sharing.proofs.StoreLaws.{parts_put}
use Rattle.sharing.proofs.storing.put_part.Goals as goal

pub loop-k-preserved : goal.loop-k-preserved
loop-k-preserved c = search parts_put
