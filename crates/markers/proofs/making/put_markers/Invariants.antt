use Rattle.markers.proofs.PutLaws.{Putting}
use Rattle.markers.proofs.making.put_markers.Given as goal

abbrev pub invariant-loop-left : goal.invariant-loop-left
invariant-loop-left l = Putting l.s l.initial.left l.initial.indices l.initial.offsets l.indices l.offsets l.left l.k

abbrev pub decreases-loop-left : goal.decreases-loop-left
decreases-loop-left l = l.left.more
