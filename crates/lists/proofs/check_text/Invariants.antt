use Prim.Native.Nat.{◌-◌}
use lib.ListN.{length}
use Rattle.lists.proofs.Checks.{Reading}
use Rattle.lists.proofs.check_text.Given as goal

abbrev pub invariant-loop-k : goal.invariant-loop-k
invariant-loop-k l = Reading l.lengths l.text l.start l.k

abbrev pub decreases-loop-k : goal.decreases-loop-k
decreases-loop-k l = length l.lengths - l.k
