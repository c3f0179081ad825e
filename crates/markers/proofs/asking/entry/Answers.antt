use Rattle.markers.proofs.AskLaws.{one_entry}
use Rattle.markers.proofs.asking.entry.Goals as goal

pub sized-requires : goal.sized-requires
sized-requires c = search one_entry

pub returns-in_default : goal.returns-in_default
returns-in_default c = search one_entry

pub returns-in_default-sized : goal.returns-in_default-sized
returns-in_default-sized c = search one_entry

pub returns : goal.returns
returns c = search one_entry
