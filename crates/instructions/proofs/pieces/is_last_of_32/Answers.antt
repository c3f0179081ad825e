use Rattle.instructions.proofs.ByteLaws.{byte_kinds}
use Rattle.instructions.proofs.pieces.is_last_of_32.Goals as goal

pub returns-then-b-le-GREATEST_OF_32 : goal.returns-then-b-le-GREATEST_OF_32
returns-then-b-le-GREATEST_OF_32 c = search byte_kinds

pub returns-then-b-lt-LEAST_OF_32 : goal.returns-then-b-lt-LEAST_OF_32
returns-then-b-lt-LEAST_OF_32 c = search byte_kinds

pub returns : goal.returns
returns c = search byte_kinds
