use Rattle.out_of_order.proofs.Tallies.{TallyTurn}
use Prim.Native.Nat.{◌-◌}
use Rattle.out_of_order.proofs.tally.tally_all.Given as goal

abbrev pub invariant-loop-i : goal.invariant-loop-i
invariant-loop-i l = TallyTurn l.initial.counted l.keys l.orders l.n l.counted l.i

abbrev pub decreases-loop-i : goal.decreases-loop-i
decreases-loop-i l = l.n - l.i
