use Rattle.markers.proofs.PassLaws.{in_short}
use Rattle.markers.proofs.passing.sixteen_on.Goals as goal

pub loop-k-init : goal.loop-k-init
loop-k-init c = search in_short

pub overflow_add-last : goal.overflow_add-last
overflow_add-last c = search in_short

pub overflow_add-length : goal.overflow_add-length
overflow_add-length c = search in_short

pub bounds-s-last : goal.bounds-s-last
bounds-s-last c = search in_short

pub bounds-s-last-in-loop-k : goal.bounds-s-last-in-loop-k
bounds-s-last-in-loop-k c = search in_short

pub overflow_add-at : goal.overflow_add-at
overflow_add-at c = search in_short

pub overflow_add-at-in-loop-k : goal.overflow_add-at-in-loop-k
overflow_add-at-in-loop-k c = search in_short

pub loop-k-preserved : goal.loop-k-preserved
loop-k-preserved c = search in_short

pub returns : goal.returns
returns c = search in_short
