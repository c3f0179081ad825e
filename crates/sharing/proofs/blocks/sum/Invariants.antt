use Prim.Native.Nat.{◌-◌}
use Rattle.sharing.proofs.BlockLaws.{Summed}
use Rattle.sharing.proofs.blocks.sum.Given as goal

abbrev pub invariant-loop-k : goal.invariant-loop-k
invariant-loop-k l = Summed l.s l.at l.k l.total

abbrev pub decreases-loop-k : goal.decreases-loop-k
decreases-loop-k l = 127 - l.k
