use Prim.Native.Nat.{◌-◌}
use Rattle.sharing.proofs.HoldLaws.{Unused}
use Rattle.sharing.proofs.holds.lowest.Given as goal

abbrev pub invariant-loop-h : goal.invariant-loop-h
invariant-loop-h l = Unused l.holds l.customer l.h

abbrev pub decreases-loop-h : goal.decreases-loop-h
decreases-loop-h l = 8 - l.h
