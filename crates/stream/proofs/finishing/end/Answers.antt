use Rattle.stream.proofs.CallLaws.{endings}
use Rattle.stream.proofs.finishing.end.Goals as goal

pub returns-then-s-eq-REFUSED : goal.returns-then-s-eq-REFUSED
returns-then-s-eq-REFUSED c = search endings

pub returns-then-s-eq-STARTING : goal.returns-then-s-eq-STARTING
returns-then-s-eq-STARTING c = search endings

pub overflow_add-s : goal.overflow_add-s
overflow_add-s c = search endings

pub returns : goal.returns
returns c = search endings
