use mathlib.Core.List.{[], ◌∷◌}
use Rattle.format.specs.Entries.{hint_columns}
use Rattle.entries.specs.Putting.{OneByte}
use Rattle.entries.proofs.PutLaws.{Putting}
use Rattle.entries.proofs.hints.put_function.Given as goal

abbrev pub invariant-loop-second : goal.invariant-loop-second
invariant-loop-second l = Putting hint_columns OneByte l.s l.initial.left l.first l.start (l.initial.firsts ∷ l.initial.seconds ∷ l.initial.likely ∷ []) (l.firsts ∷ l.seconds ∷ l.likely ∷ []) l.left l.at

abbrev pub decreases-loop-second : goal.decreases-loop-second
decreases-loop-second l = l.left.more
