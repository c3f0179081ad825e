use Prim.Native.Nat.{◌-◌}
use Rattle.sharing.proofs.TidyLaws.{Leading}
use Rattle.sharing.proofs.tidying.leads.Given as goal

abbrev pub invariant-loop-b : goal.invariant-loop-b
invariant-loop-b l = Leading l.used l.blocks l.to l.b l.next

abbrev pub decreases-loop-b : goal.decreases-loop-b
decreases-loop-b l = 255 - l.b
