use Prim.Native.Nat.{◌-◌}
use Rattle.sharing.proofs.StoreLaws.{Copied}
use Rattle.sharing.proofs.storing.put_part.Given as goal

abbrev pub invariant-loop-k : goal.invariant-loop-k
invariant-loop-k l = Copied l.initial.out l.at l.s l.from l.count l.out l.k

abbrev pub decreases-loop-k : goal.decreases-loop-k
decreases-loop-k l = l.count - l.k
