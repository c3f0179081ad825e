use Rattle.sharing.proofs.BlockLaws.{enough}
use Rattle.sharing.proofs.blocks.all_right.Goals as goal

pub returns-then-blocks-first : goal.returns-then-blocks-first
returns-then-blocks-first c = search enough

pub returns-then-blocks-first-2 : goal.returns-then-blocks-first-2
returns-then-blocks-first-2 c = search enough
