use Prim.Native.Nat.{◌-◌}
use Rattle.sharing.proofs.TidyLaws.{Rowed}
use Rattle.sharing.proofs.tidying.pack_rows.Given as goal

abbrev pub invariant-loop-b : goal.invariant-loop-b
invariant-loop-b l = Rowed l.used l.blocks l.t l.next l.b l.to

abbrev pub decreases-loop-b : goal.decreases-loop-b
decreases-loop-b l = l.blocks - l.b
