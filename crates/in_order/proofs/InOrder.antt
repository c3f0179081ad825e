-- The rows of entries in order are their hints, one by one: what is listed of them. Nothing here is about code.
use Prim.Native.Nat.{ℕ}
use mathlib.Core.Bool.{true}
use mathlib.Core.List.{List, [], ◌∷◌, ◌++◌}
use mathlib.Core.Path.{◌≡◌, refl, ap, ap₂, ◌∙◌}
use Rattle.format.specs.Canonical.{unless_empty, keep_rows}
use Rattle.format.specs.Entries.{rows_under, group_rows}
use Rattle.format.specs.Older.{OlderHint, OlderEntry, sorted_from}
use Rattle.format.specs.OlderInOrder.{rising_entries}
use Rattle.format.specs.Tables.{Table, nil, row}
use Rattle.format.proofs.Laws.OlderInOrder.{hint_table, entry_table, in_order}
use Rattle.in_order.specs.Rows.{hints_rows, entries_rows}

-- a group without rows is none
kept_one : {A : Type 0} (k : ℕ) (u : Table A) (t : Table (Table A)) → group_rows (keep_rows unless_empty (row k u t)) ≡ rows_under k u ++ group_rows (keep_rows unless_empty t)
unfolding group_rows rows_under keep_rows unless_empty
kept_one k nil t = refl
kept_one k (row j x u) t = refl

groups_kept : {A : Type 0} (t : Table (Table A)) → group_rows (keep_rows unless_empty t) ≡ group_rows t
unfolding group_rows keep_rows
groups_kept nil = refl
groups_kept (row k u t) = kept_one k u t ∙ ap (λ l. rows_under k u ++ l) (groups_kept t)

hints_rows_lem : (f : ℕ) (hs : List OlderHint) → rows_under f (hint_table hs) ≡ hints_rows f hs
unfolding rows_under hint_table hints_rows
hints_rows_lem f [] = refl
hints_rows_lem f (h ∷ hs) = rw (hints_rows_lem f hs)

entries_rows_lem : (es : List OlderEntry) → group_rows (entry_table es) ≡ entries_rows es
unfolding group_rows entry_table entries_rows
entries_rows_lem [] = refl
entries_rows_lem (e ∷ es) = ap₂ (λ a b. a ++ b) (hints_rows_lem e.function e.hints) (entries_rows_lem es)

pub in_order_rows : (es : List OlderEntry) → rising_entries 0 es ≡ true → group_rows (sorted_from nil es) ≡ entries_rows es
in_order_rows es r = ap group_rows (in_order es r) ∙ groups_kept (entry_table es) ∙ entries_rows_lem es
