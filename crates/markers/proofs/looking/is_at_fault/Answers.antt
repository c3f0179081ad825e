use Rattle.markers.proofs.LookLaws.{one_position}
use Rattle.markers.proofs.looking.is_at_fault.Goals as goal

pub returns-then-indices-i : goal.returns-then-indices-i
returns-then-indices-i c = search one_position

pub returns-then-offsets-i : goal.returns-then-offsets-i
returns-then-offsets-i c = search one_position

pub returns : goal.returns
returns c = search one_position
