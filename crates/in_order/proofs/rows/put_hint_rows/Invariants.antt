use mathlib.Core.List.{[], ◌∷◌}
use Rattle.format.specs.Older.{older_hint}
use Rattle.in_order.specs.Rows.{hints_rows}
use Rattle.in_order.proofs.Listing.{PuttingRows}
use Rattle.in_order.proofs.rows.put_hint_rows.Given as goal

abbrev pub invariant-loop : goal.invariant-loop
invariant-loop l = PuttingRows older_hint (hints_rows l.function) l.n l.s l.initial.next (l.initial.functions ∷ l.initial.offsets ∷ l.initial.likely ∷ []) l.at (l.functions ∷ l.offsets ∷ l.likely ∷ []) l.to l.next l.counter
