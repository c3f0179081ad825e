use Rattle.entries.proofs.CountLaws.{Counting}
use Rattle.entries.proofs.counting.rows_in_groups.Given as goal

abbrev pub invariant-loop-place : goal.invariant-loop-place
invariant-loop-place l = Counting l.s l.initial.left l.left l.n

abbrev pub decreases-loop-place : goal.decreases-loop-place
decreases-loop-place l = l.left.more
