use Rattle.copying.proofs.Putting.{Putting}
use Rattle.copying.proofs.put_rows.Given as goal

abbrev pub invariant-loop-index : goal.invariant-loop-index
invariant-loop-index l = Putting l.s l.initial.left l.initial.out l.at l.out l.to l.left

abbrev pub decreases-loop-index : goal.decreases-loop-index
decreases-loop-index l = l.left.more
