use Rattle.stream.proofs.Leaves.{spelling}
use Rattle.stream.proofs.texts.later_byte.Goals as goal

pub returns-then-b-lt128 : goal.returns-then-b-lt128
returns-then-b-lt128 c = search spelling

pub returns-then-b-gt191 : goal.returns-then-b-gt191
returns-then-b-gt191 c = search spelling

pub returns-then-t-gt1 : goal.returns-then-t-gt1
returns-then-t-gt1 c = search spelling

pub returns-then-is_allowed : goal.returns-then-is_allowed
returns-then-is_allowed c = search spelling

pub returns : goal.returns
returns c = search spelling
