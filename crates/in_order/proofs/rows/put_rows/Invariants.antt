use Rattle.format.specs.Laws.Counted.{Counted}
use mathlib.Core.List.{[], ◌∷◌}
use Rattle.format.specs.Older.{older_entry}
use Rattle.in_order.specs.Rows.{entries_rows}
use Rattle.in_order.proofs.Listing.{PuttingRows}
use Rattle.in_order.proofs.rows.put_rows.Given as goal

abbrev pub invariant-loop : goal.invariant-loop
invariant-loop l = Counted (λ more. PuttingRows older_entry entries_rows l.n l.s l.initial.next (l.initial.functions ∷ l.initial.offsets ∷ l.initial.likely ∷ []) 0 (l.functions ∷ l.offsets ∷ l.likely ∷ []) l.to l.next more) l.n l.counter
