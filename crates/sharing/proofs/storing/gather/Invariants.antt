use Prim.Native.Nat.{◌-◌}
use Rattle.sharing.proofs.StoreLaws.{Gathered}
use Rattle.sharing.proofs.storing.gather.Given as goal

abbrev pub invariant-loop-from : goal.invariant-loop-from
invariant-loop-from l = Gathered l.store l.first l.size l.initial.into l.into l.at l.from

abbrev pub decreases-loop-from : goal.decreases-loop-from
decreases-loop-from l = l.size - l.from
