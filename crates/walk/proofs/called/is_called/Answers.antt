use Rattle.walk.proofs.CalledLaws.{called_turns}
use Rattle.walk.proofs.called.is_called.Goals as goal

pub returns-then-part-at : goal.returns-then-part-at
returns-then-part-at c = search called_turns

pub returns-then-s-at : goal.returns-then-s-at
returns-then-s-at c = search called_turns

pub loop-k-preserved : goal.loop-k-preserved
loop-k-preserved c = search called_turns

pub returns : goal.returns
returns c = search called_turns
