use Rattle.format.specs.Parts.{sized}
use Rattle.format.specs.Tables.{table}
use Rattle.tables.proofs.FindLaws.{Seeking}
use Rattle.neighbours.proofs.maps.entry_within.Given as goal

abbrev pub invariant-loop-k : goal.invariant-loop-k
invariant-loop-k l = Seeking (table sized) l.key l.s l.initial.left l.left

abbrev pub decreases-loop-k : goal.decreases-loop-k
decreases-loop-k l = l.left.more
