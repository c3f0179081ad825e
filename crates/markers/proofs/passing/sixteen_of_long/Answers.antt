use Rattle.markers.proofs.PassLaws.{in_long}
use Rattle.markers.proofs.passing.sixteen_of_long.Goals as goal

pub loop-k-init : goal.loop-k-init
loop-k-init c = search in_long

pub overflow_add-last : goal.overflow_add-last
overflow_add-last c = search in_long

pub bounds-s-last : goal.bounds-s-last
bounds-s-last c = search in_long

pub overflow_add-low : goal.overflow_add-low
overflow_add-low c = search in_long

pub bounds-s-last-in-loop-k : goal.bounds-s-last-in-loop-k
bounds-s-last-in-loop-k c = search in_long

pub bounds-s-last-in-loop-k-2 : goal.bounds-s-last-in-loop-k-2
bounds-s-last-in-loop-k-2 c = search in_long

pub loop-k-preserved : goal.loop-k-preserved
loop-k-preserved c = search in_long

pub returns : goal.returns
returns c = search in_long
