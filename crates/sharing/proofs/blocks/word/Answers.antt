use Rattle.sharing.proofs.BlockLaws.{worded}
use Rattle.sharing.proofs.blocks.word.Goals as goal

pub returns : goal.returns
returns c = search worded
