use Rattle.instructions.proofs.PieceSteps.{byte_steps}
use Rattle.instructions.proofs.pieces.byte_of.Goals as goal

pub returns-then-end-at : goal.returns-then-end-at
returns-then-end-at c = search byte_steps

pub returns-then-is_of : goal.returns-then-is_of
returns-then-is_of c = search byte_steps

pub returns : goal.returns
returns c = search byte_steps
