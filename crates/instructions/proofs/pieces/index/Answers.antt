use Rattle.instructions.proofs.PieceSteps.{index_steps}
use Rattle.instructions.proofs.pieces.index.Goals as goal

pub returns-in_default : goal.returns-in_default
returns-in_default c = search index_steps

pub returns : goal.returns
returns c = search index_steps
