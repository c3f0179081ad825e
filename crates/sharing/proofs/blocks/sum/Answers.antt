use Rattle.sharing.proofs.BlockLaws.{sums}
use Rattle.sharing.proofs.blocks.sum.Goals as goal

pub loop-k-init : goal.loop-k-init
loop-k-init c = search sums

pub loop-k-preserved : goal.loop-k-preserved
loop-k-preserved c = search sums
