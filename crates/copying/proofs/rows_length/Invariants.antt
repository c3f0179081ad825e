use Rattle.copying.proofs.Measuring.{Counting}
use Rattle.copying.proofs.rows_length.Given as goal

abbrev pub invariant-loop-index : goal.invariant-loop-index
invariant-loop-index l = Counting l.s l.initial.left l.left l.length

abbrev pub decreases-loop-index : goal.decreases-loop-index
decreases-loop-index l = l.left.more
