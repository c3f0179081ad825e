use Prim.Native.Nat.{◌-◌}
use Rattle.sharing.proofs.FindLaws.{Sought}
use Rattle.sharing.proofs.rows.find.Given as goal

abbrev pub invariant-loop-b : goal.invariant-loop-b
invariant-loop-b l = Sought l.users l.sizes l.store l.q l.b

abbrev pub decreases-loop-b : goal.decreases-loop-b
decreases-loop-b l = l.blocks - l.b
