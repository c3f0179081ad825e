use Rattle.markers.proofs.LookLaws.{block_loop}
use Rattle.markers.proofs.looking.in_blocks.Goals as goal

pub loop-position-preserved : goal.loop-position-preserved
loop-position-preserved c = search block_loop
