use Rattle.sharing.proofs.BlockLaws.{checks}
use Rattle.sharing.proofs.blocks.each_right.Goals as goal

pub loop-k-preserved : goal.loop-k-preserved
loop-k-preserved c = search checks

pub returns-else-is_right : goal.returns-else-is_right
returns-else-is_right c = search checks

pub returns : goal.returns
returns c = search checks
