use Rattle.neighbours.proofs.Laws.{Placing}
use Rattle.neighbours.proofs.maps.entry.Given as goal

abbrev pub invariant-loop-k : goal.invariant-loop-k
invariant-loop-k l = Placing l.id l.key l.s l.initial.left l.left l.below l.position

abbrev pub decreases-loop-k : goal.decreases-loop-k
decreases-loop-k l = l.left.more
