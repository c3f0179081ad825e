use Prim.Native.Nat.{◌-◌}
use Rattle.sharing.proofs.TidyLaws.{Shifted}
use Rattle.sharing.proofs.tidying.pack_blocks.Given as goal

abbrev pub invariant-loop-b : goal.invariant-loop-b
invariant-loop-b l = Shifted l.used l.initial.store l.store l.b l.to

abbrev pub decreases-loop-b : goal.decreases-loop-b
decreases-loop-b l = l.blocks - l.b
