use Rattle.sharing.proofs.AskLaws.{sizes_stored}
use Rattle.sharing.proofs.holds.size_at.Goals as goal

pub returns-then-b-ge-PLACES : goal.returns-then-b-ge-PLACES
returns-then-b-ge-PLACES c = search sizes_stored

pub returns : goal.returns
returns c = search sizes_stored
