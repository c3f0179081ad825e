use Prim.Native.Nat.{◌-◌}
use lib.ListN.{length}
use Rattle.lists.proofs.Checks.{Adding}
use Rattle.lists.proofs.adds_up.Given as goal

abbrev pub invariant-loop-k : goal.invariant-loop-k
invariant-loop-k l = Adding l.lengths l.total l.left l.k

abbrev pub decreases-loop-k : goal.decreases-loop-k
decreases-loop-k l = length l.lengths - l.k
