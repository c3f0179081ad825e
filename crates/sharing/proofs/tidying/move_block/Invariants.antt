use Prim.Native.Nat.{◌-◌}
use Rattle.sharing.proofs.TidyLaws.{Moved}
use Rattle.sharing.proofs.tidying.move_block.Given as goal

abbrev pub invariant-loop-k : goal.invariant-loop-k
invariant-loop-k l = Moved l.initial.store l.from l.to l.store l.k

abbrev pub decreases-loop-k : goal.decreases-loop-k
decreases-loop-k l = 512 - l.k
