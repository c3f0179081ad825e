use Prim.Native.Nat.{◌-◌}
use lib.ListN.{length}
use Rattle.lists.proofs.Checks.{Rising}
use Rattle.lists.proofs.check_indices.Given as goal

abbrev pub invariant-loop-k : goal.invariant-loop-k
invariant-loop-k l = Rising l.indices l.least l.k

abbrev pub decreases-loop-k : goal.decreases-loop-k
decreases-loop-k l = length l.indices - l.k
