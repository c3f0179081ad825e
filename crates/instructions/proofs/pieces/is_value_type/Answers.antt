use Rattle.instructions.proofs.ByteLaws.{byte_kinds}
use Rattle.instructions.proofs.pieces.is_value_type.Goals as goal

pub returns-then-b-lt-F64 : goal.returns-then-b-lt-F64
returns-then-b-lt-F64 c = search byte_kinds

pub returns : goal.returns
returns c = search byte_kinds
