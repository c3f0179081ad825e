use Rattle.sharing.proofs.AskLaws.{copies}
use Rattle.sharing.proofs.asking.put_name.Goals as goal

pub returns-then-out-count : goal.returns-then-out-count
returns-then-out-count c = search copies

pub returns : goal.returns
returns c = search copies
