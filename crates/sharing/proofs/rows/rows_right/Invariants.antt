use Prim.Native.Nat.{◌-◌}
use Rattle.sharing.proofs.RowLaws.{Walked}
use Rattle.sharing.proofs.rows.rows_right.Given as goal

abbrev pub invariant-loop-b : goal.invariant-loop-b
invariant-loop-b l = Walked l.users l.sizes l.store l.b

abbrev pub decreases-loop-b : goal.decreases-loop-b
decreases-loop-b l = l.blocks - l.b
