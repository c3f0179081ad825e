use Rattle.instructions.proofs.ByteLaws.{byte_kinds}
use Rattle.instructions.proofs.pieces.is_block_type.Goals as goal

pub returns-then-b-eq-EMPTY : goal.returns-then-b-eq-EMPTY
returns-then-b-eq-EMPTY c = search byte_kinds

pub returns : goal.returns
returns c = search byte_kinds
