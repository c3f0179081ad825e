use lib.ListN.{length}
use Rattle.out_of_order.specs.Gathering.{left_below}
use Rattle.out_of_order.proofs.Measures.{MeasureTurn}
use Rattle.out_of_order.proofs.measuring.tally_of.Given as goal

abbrev pub invariant-loop-keys : goal.invariant-loop-keys
invariant-loop-keys l = MeasureTurn l.n l.s l.c l.initial.keys l.initial.orders l.keys l.orders l.bound l.tally

abbrev pub decreases-loop-keys : goal.decreases-loop-keys
decreases-loop-keys l = length (left_below l.n l.s l.c l.bound)
