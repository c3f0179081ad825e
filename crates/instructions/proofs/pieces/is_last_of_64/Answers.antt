use Rattle.instructions.proofs.ByteLaws.{byte_kinds}
use Rattle.instructions.proofs.pieces.is_last_of_64.Goals as goal

pub returns-then-b-eq-NOT_NEGATIVE : goal.returns-then-b-eq-NOT_NEGATIVE
returns-then-b-eq-NOT_NEGATIVE c = search byte_kinds

pub returns : goal.returns
returns c = search byte_kinds
