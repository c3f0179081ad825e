use Rattle.sharing.proofs.BlockLaws.{rights}
use Rattle.sharing.proofs.blocks.is_right.Goals as goal

pub returns : goal.returns
returns c = search rights
