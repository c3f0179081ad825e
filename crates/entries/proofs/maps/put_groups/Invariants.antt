use mathlib.Core.List.{[], ◌∷◌}
use Rattle.format.specs.Entries.{place_columns}
use Rattle.entries.specs.Putting.{AnyPart}
use Rattle.entries.proofs.GroupLaws.{PuttingGroups}
use Rattle.entries.proofs.maps.put_groups.Given as goal

abbrev pub invariant-loop-first : goal.invariant-loop-first
invariant-loop-first l = PuttingGroups place_columns AnyPart l.s l.initial.left (l.initial.firsts ∷ l.initial.seconds ∷ l.initial.offsets ∷ l.initial.lengths ∷ []) (l.firsts ∷ l.seconds ∷ l.offsets ∷ l.lengths ∷ []) l.left l.at

abbrev pub decreases-loop-first : goal.decreases-loop-first
decreases-loop-first l = l.left.more
