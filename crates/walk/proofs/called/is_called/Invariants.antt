use Prim.Native.Nat.{◌-◌}
use lib.ListN.{length}
use Rattle.walk.proofs.CalledLaws.{Turn}
use Rattle.walk.proofs.called.is_called.Given as goal

abbrev pub invariant-loop-k : goal.invariant-loop-k
invariant-loop-k l = Turn l.s l.name l.at l.k

abbrev pub decreases-loop-k : goal.decreases-loop-k
decreases-loop-k l = length l.name - l.k
