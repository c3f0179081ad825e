use Rattle.stream.proofs.CallLaws.{parts}
use Rattle.stream.proofs.take_part.Goals as goal

pub returns-then-has_room : goal.returns-then-has_room
returns-then-has_room c = search parts

pub returns-then-is_open : goal.returns-then-is_open
returns-then-is_open c = search parts

pub returns : goal.returns
returns c = search parts
