use Prim.Native.Nat.{◌-◌}
use Rattle.reading.proofs.NumberLoop.{Turn}
use Rattle.reading.proofs.Cursor.long_number.Given as goal

abbrev pub invariant-loop-i : goal.invariant-loop-i
invariant-loop-i l = Turn l.s l.at l.end l.value l.weight l.i l.more

abbrev pub decreases-loop-i : goal.decreases-loop-i
decreases-loop-i l = l.end - l.i
