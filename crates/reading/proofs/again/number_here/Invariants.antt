use Prim.Native.Nat.{◌-◌}
use Rattle.reading.proofs.AgainSteps.{Going}
use Rattle.reading.proofs.again.number_here.Given as goal

abbrev pub invariant-loop-b : goal.invariant-loop-b
invariant-loop-b l = Going l.s (record { at = l.initial.i; end = l.end }) l.value l.weight l.i l.b

abbrev pub decreases-loop-b : goal.decreases-loop-b
decreases-loop-b l = l.end - l.i
