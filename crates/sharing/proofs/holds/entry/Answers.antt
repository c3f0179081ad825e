use Rattle.sharing.proofs.HoldLaws.{entries}
use Rattle.sharing.proofs.holds.entry.Goals as goal

pub returns-then-hold-ge8 : goal.returns-then-hold-ge8
returns-then-hold-ge8 c = search entries

pub returns : goal.returns
returns c = search entries
