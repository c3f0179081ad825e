use Rattle.copying.proofs.Putting.{PuttingGroups}
use Rattle.copying.proofs.put_groups.Given as goal

abbrev pub invariant-loop-index : goal.invariant-loop-index
invariant-loop-index l = PuttingGroups l.s l.initial.left l.initial.out l.at l.out l.to l.left

abbrev pub decreases-loop-index : goal.decreases-loop-index
decreases-loop-index l = l.left.more
