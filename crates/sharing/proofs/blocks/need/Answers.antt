use Rattle.sharing.proofs.BlockLaws.{needed}
use Rattle.sharing.proofs.blocks.need.Goals as goal

pub returns-then-size-eq0 : goal.returns-then-size-eq0
returns-then-size-eq0 c = search needed

pub returns : goal.returns
returns c = search needed
