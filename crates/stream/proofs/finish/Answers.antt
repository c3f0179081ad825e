use Rattle.stream.proofs.CallLaws.{finishing}
use Rattle.stream.proofs.finish.Goals as goal

pub returns-then-is_open : goal.returns-then-is_open
returns-then-is_open c = search finishing

pub returns : goal.returns
returns c = search finishing
