use Prim.Native.Nat.{◌-◌}
use lib.ListN.{length}
use Rattle.markers.proofs.LookLaws.{Seeking}
use Rattle.markers.proofs.looking.last_from.Given as goal

abbrev pub invariant-loop-i : goal.invariant-loop-i
invariant-loop-i l = Seeking l.indices l.near l.key l.i

abbrev pub decreases-loop-i : goal.decreases-loop-i
decreases-loop-i l = length l.indices - l.i
