use Prim.Native.Nat.{◌-◌}
use Rattle.branches.proofs.SeatSteps.{Walking}
use Rattle.branches.proofs.seats.go_to.Given as goal

abbrev pub invariant-loop-here : goal.invariant-loop-here
invariant-loop-here l = Walking l.s l.initial.here l.base l.offset l.here

abbrev pub decreases-loop-here : goal.decreases-loop-here
decreases-loop-here l = l.here.end - l.here.at
