use Rattle.lists.proofs.Checks.{rises}
use Rattle.lists.proofs.check_indices.Goals as goal

pub returns-then-index-least : goal.returns-then-index-least
returns-then-index-least c = search rises

pub loop-k-preserved : goal.loop-k-preserved
loop-k-preserved c = search rises

pub returns : goal.returns
returns c = search rises
