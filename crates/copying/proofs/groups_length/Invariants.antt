use Rattle.copying.proofs.Measuring.{CountingGroups}
use Rattle.copying.proofs.groups_length.Given as goal

abbrev pub invariant-loop-index : goal.invariant-loop-index
invariant-loop-index l = CountingGroups l.s l.initial.left l.left l.kept l.length

abbrev pub decreases-loop-index : goal.decreases-loop-index
decreases-loop-index l = l.left.more
