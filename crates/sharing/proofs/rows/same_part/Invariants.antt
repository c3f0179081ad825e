use Prim.Native.Nat.{◌-◌}
use Rattle.sharing.proofs.RowLaws.{Compared}
use Rattle.sharing.proofs.rows.same_part.Given as goal

abbrev pub invariant-loop-k : goal.invariant-loop-k
invariant-loop-k l = Compared l.s l.at l.q l.from l.count l.k

abbrev pub decreases-loop-k : goal.decreases-loop-k
decreases-loop-k l = l.count - l.k
