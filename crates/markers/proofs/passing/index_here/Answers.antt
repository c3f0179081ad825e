use Rattle.markers.proofs.IndexLaws.{in_index}
use Rattle.markers.proofs.passing.index_here.Goals as goal

pub bounds-s-at : goal.bounds-s-at
bounds-s-at c = search in_index

pub returns-then-first-lt-FOLLOWED : goal.returns-then-first-lt-FOLLOWED
returns-then-first-lt-FOLLOWED c = search in_index

pub bounds-s-at-2 : goal.bounds-s-at-2
bounds-s-at-2 c = search in_index

pub returns-then-second-gt0 : goal.returns-then-second-gt0
returns-then-second-gt0 c = search in_index

pub bounds-s-at-else-second-lt-FOLLOWED : goal.bounds-s-at-else-second-lt-FOLLOWED
bounds-s-at-else-second-lt-FOLLOWED c = search in_index

pub returns-then-third-gt0 : goal.returns-then-third-gt0
returns-then-third-gt0 c = search in_index
