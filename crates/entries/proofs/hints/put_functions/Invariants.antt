use mathlib.Core.List.{[], ◌∷◌}
use Rattle.format.specs.Entries.{hint_columns}
use Rattle.entries.specs.Putting.{OneByte}
use Rattle.entries.proofs.GroupLaws.{PuttingGroups}
use Rattle.entries.proofs.hints.put_functions.Given as goal

abbrev pub invariant-loop-first : goal.invariant-loop-first
invariant-loop-first l = PuttingGroups hint_columns OneByte l.s l.initial.left (l.initial.firsts ∷ l.initial.seconds ∷ l.initial.likely ∷ []) (l.firsts ∷ l.seconds ∷ l.likely ∷ []) l.left l.at

abbrev pub decreases-loop-first : goal.decreases-loop-first
decreases-loop-first l = l.left.more
