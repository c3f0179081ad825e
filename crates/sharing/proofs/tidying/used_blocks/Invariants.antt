use Prim.Native.Nat.{◌-◌}
use Rattle.sharing.proofs.TidyLaws.{Seen}
use Rattle.sharing.proofs.tidying.used_blocks.Given as goal

abbrev pub invariant-loop-b : goal.invariant-loop-b
invariant-loop-b l = Seen l.users l.sizes l.store l.used l.b l.cover

abbrev pub decreases-loop-b : goal.decreases-loop-b
decreases-loop-b l = l.blocks - l.b
