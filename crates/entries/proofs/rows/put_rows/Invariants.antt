use mathlib.Core.List.{[], ◌∷◌}
use Rattle.format.specs.Entries.{place_columns}
use Rattle.entries.specs.Putting.{AnyPart}
use Rattle.entries.proofs.PutLaws.{Putting}
use Rattle.entries.proofs.rows.put_rows.Given as goal

abbrev pub invariant-loop-second : goal.invariant-loop-second
invariant-loop-second l = Putting place_columns AnyPart l.s l.initial.left l.first l.start (l.initial.firsts ∷ l.initial.seconds ∷ l.initial.offsets ∷ l.initial.lengths ∷ []) (l.firsts ∷ l.seconds ∷ l.offsets ∷ l.lengths ∷ []) l.left l.at

abbrev pub decreases-loop-second : goal.decreases-loop-second
decreases-loop-second l = l.left.more
