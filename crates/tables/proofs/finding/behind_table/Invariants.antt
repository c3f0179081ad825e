use Rattle.format.specs.Parts.{sized}
use Rattle.tables.proofs.Along.{Along}
use Rattle.tables.proofs.finding.behind_table.Given as goal

abbrev pub invariant-loop-next : goal.invariant-loop-next
invariant-loop-next l = Along sized l.s l.initial.left l.left

abbrev pub decreases-loop-next : goal.decreases-loop-next
decreases-loop-next l = l.left.more
