use Prim.Native.Nat.{◌-◌}
use lib.ListN.{length}
use Rattle.lists.proofs.Sizes.{Summed}
use Rattle.lists.proofs.measure.Given as goal

abbrev pub invariant-loop-k : goal.invariant-loop-k
invariant-loop-k l = Summed l.indices l.lengths l.total l.k

abbrev pub decreases-loop-k : goal.decreases-loop-k
decreases-loop-k l = length l.indices - l.k
