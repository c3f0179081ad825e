use Prim.Native.Nat.{◌-◌}
use Rattle.sharing.proofs.StoreLaws.{Zeroed}
use Rattle.sharing.proofs.storing.put_zeros.Given as goal

abbrev pub invariant-loop-k : goal.invariant-loop-k
invariant-loop-k l = Zeroed l.initial.out l.at l.end l.out l.k

abbrev pub decreases-loop-k : goal.decreases-loop-k
decreases-loop-k l = l.end - l.k
