use Prim.Native.Nat.{◌-◌}
use lib.ListN.{length}
use Rattle.lists.proofs.Puts.{Putting}
use Rattle.lists.proofs.put_rows.Given as goal

abbrev pub invariant-loop-k : goal.invariant-loop-k
invariant-loop-k l = Putting l.initial.out l.at l.indices l.lengths l.text l.out l.next l.start l.k

abbrev pub decreases-loop-k : goal.decreases-loop-k
decreases-loop-k l = length l.indices - l.k
