use Rattle.walk.proofs.CalledLaws.{joined}
use Rattle.walk.proofs.called.is_joined.Goals as goal

pub returns-then-end-at : goal.returns-then-end-at
returns-then-end-at c = search joined

pub returns-then-is_called : goal.returns-then-is_called
returns-then-is_called c = search joined

pub returns : goal.returns
returns c = search joined
