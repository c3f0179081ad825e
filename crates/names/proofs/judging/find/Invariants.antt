use Prim.Native.Nat.{◌-◌}
use Rattle.names.proofs.JudgeLaws.{Search}
use Rattle.names.proofs.judging.find.Given as goal

abbrev pub invariant-loop-next : goal.invariant-loop-next
invariant-loop-next l = Search l.s l.initial.next l.next l.id

abbrev pub decreases-loop-next : goal.decreases-loop-next
decreases-loop-next l = l.next.end - l.next.at
