use Prim.Native.Nat.{◌-◌}
use Rattle.sharing.proofs.BlockLaws.{Checked}
use Rattle.sharing.proofs.blocks.each_right.Given as goal

abbrev pub invariant-loop-k : goal.invariant-loop-k
invariant-loop-k l = Checked l.store l.first l.count l.k

abbrev pub decreases-loop-k : goal.decreases-loop-k
decreases-loop-k l = l.count - l.k
