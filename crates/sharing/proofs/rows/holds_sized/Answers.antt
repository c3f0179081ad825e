use Rattle.sharing.proofs.FindLaws.{sizes_told}
use Rattle.sharing.proofs.rows.holds_sized.Goals as goal

pub returns : goal.returns
returns c = search sizes_told
