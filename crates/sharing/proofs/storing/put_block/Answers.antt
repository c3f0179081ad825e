use Rattle.sharing.proofs.StoreLaws.{blocks_put}
use Rattle.sharing.proofs.storing.put_block.Goals as goal

pub returns : goal.returns
returns c = search blocks_put
