use Rattle.markers.proofs.PassLaws.{one_entry}
use Rattle.markers.proofs.passing.behind_index.Goals as goal

pub overflow_add-last : goal.overflow_add-last
overflow_add-last c = search one_entry

pub bounds-s-last : goal.bounds-s-last
bounds-s-last c = search one_entry

pub overflow_add-result : goal.overflow_add-result
overflow_add-result c = search one_entry

pub returns-then-s-last-lt-FOLLOWED : goal.returns-then-s-last-lt-FOLLOWED
returns-then-s-last-lt-FOLLOWED c = search one_entry

pub number_here-index-requires : goal.number_here-index-requires
number_here-index-requires c = search one_entry
