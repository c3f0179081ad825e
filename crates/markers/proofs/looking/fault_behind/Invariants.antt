use Prim.Native.Nat.{◌-◌}
use lib.ListN.{length}
use Rattle.markers.proofs.LookLaws.{Single}
use Rattle.markers.proofs.looking.fault_behind.Given as goal

abbrev pub invariant-loop-i : goal.invariant-loop-i
invariant-loop-i l = Single l.indices l.offsets l.end l.i

abbrev pub decreases-loop-i : goal.decreases-loop-i
decreases-loop-i l = length l.indices - l.i
