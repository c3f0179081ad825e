use Prim.Native.Nat.{◌-◌}
use Rattle.markers.proofs.PassLaws.{On}
use Rattle.markers.proofs.passing.sixteen_of_any.Given as goal

abbrev pub invariant-loop-k : goal.invariant-loop-k
invariant-loop-k l = On l.k l.width l.s l.left l.next

abbrev pub decreases-loop-k : goal.decreases-loop-k
decreases-loop-k l = 16 - l.k
