use Rattle.markers.proofs.PassLaws.{one_entry}
use Rattle.markers.proofs.passing.behind_entry.Goals as goal

pub part_here-text-requires : goal.part_here-text-requires
part_here-text-requires c = search one_entry

pub returns : goal.returns
returns c = search one_entry
