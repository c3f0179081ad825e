-- Rows that are put behind rows are one write in every list; and what that leaves is what a listing promises.
use Rattle.std.specs.Prelude.{Ok, Some}
use Prim.Native.Nat.{ℕ, ◌≤◌}
use mathlib.Core.Bool.{Bool, true, false, false≢true, ◌&&◌}
use mathlib.Core.List.{List, [], ◌∷◌, ◌++◌, map, map-append}
use mathlib.Core.Option.{Option, some}
use mathlib.Core.Path.{◌≡◌, refl, ap₂, ◌∙◌}
use native.Mathlib.Nat.{zero-add}
use native.Mathlib.Omega.{arith}
use borrow.Author.Tests.{le-leb, leb-true}
use lib.Dec.{leb}
use lib.ListN.{length}
use Rattle.format.specs.Entries.{Listed, fit_each, fitting_rows, over_each, Lists}
use Rattle.format.specs.Reading.{Judged, accepted}
use Rattle.writing.specs.Columns.{Room, no_list, another, Columns, no_column, column}
use Rattle.writing.proofs.Laws.{wrote_nothing, wrote_length, wrote_join}

-- The room, as the definition has it
both_true : (x y : Bool) → x && y ≡ true → (x ≡ true) × (y ≡ true)
both_true true y e = (refl, e)
both_true false y e = absurd (false≢true e)

pub room_there : (n : ℕ) (lists : List (List ℕ)) → fit_each n lists ≡ true → Room n lists
unfolding fit_each
room_there n [] e = no_list
room_there n (l ∷ ls) e =
    let both = both_true (leb n (length l)) (fit_each n ls) e in
    another (leb-true n (length l) both.0) (room_there n ls both.1)

pub room_fits : {n : ℕ} {lists : List (List ℕ)} → Room n lists → fit_each n lists ≡ true
unfolding fit_each
room_fits no_list = refl
room_fits {n} (another {l = l} h r) = rw (le-leb n (length l) h) (room_fits r)

pub less_room : {m n : ℕ} {lists : List (List ℕ)} → Room n lists → m ≤ n → Room m lists
less_room no_list h = no_list
less_room (another {l = l} g r) h = another {l = l} (omega (arith, g, h)) (less_room r h)

module _ {X : Type 0} where
  -- the lists are as long as before
  pub same_room : {n : ℕ} {es : List (Listed X)} {at next : ℕ} {columns : List (Listed X → ℕ)} {lists lists' : List (List ℕ)} → Columns es at next columns lists lists' → Room n lists → Room n lists'
  same_room no_column no_list = no_list
  same_room (column {l' = l'} w c) (another h r) = another {l = l'} (omega (arith, h, wrote_length w)) (same_room c r)

  -- nothing is put yet
  pub no_rows_put : {at : ℕ} (columns : List (Listed X → ℕ)) {lists : List (List ℕ)} → length columns ≡ length lists → Room at lists → Columns [] at at columns lists lists
  no_rows_put [] e no_list = no_column
  no_rows_put (shows ∷ columns) e (another h r) = column (wrote_nothing h) (no_rows_put columns (omega (arith, e)) r)
  no_rows_put [] e (another h r) = absurd (omega (arith, e))
  no_rows_put (shows ∷ columns) e no_list = absurd (omega (arith, e))

  pub columns_join : {es fs : List (Listed X)} {at i next : ℕ} {columns : List (Listed X → ℕ)} {lists mid lists' : List (List ℕ)} → Columns es at i columns lists mid → Columns fs i next columns mid lists' → Columns (es ++ fs) at next columns lists lists'
  columns_join no_column no_column = no_column
  columns_join {es} {fs} (column {shows = shows} {l = l} w c) (column {l' = l'} v d) = column {shows = shows} {l = l} {l' = l'} (rw (map-append shows es fs) (wrote_join w v)) (columns_join c d)

  -- What a listing leaves
  over_all : {es : List (Listed X)} {next : ℕ} {columns : List (Listed X → ℕ)} {lists lists' : List (List ℕ)} → Columns es 0 next columns lists lists' → lists' ≡ over_each columns es lists
  unfolding over_each
  over_all no_column = refl
  over_all {es} (column {shows = shows} w c) =
      let end : _ ≡ length (map shows es) = w.next_is ∙ zero-add (length (map shows es)) in
      ap₂ ◌∷◌ (w.written ∙ rw end refl) (over_all c)

  pub lists_all : {es : List (Listed X)} {n : ℕ} {columns : List (Listed X → ℕ)} {found : Judged (Option (List (Listed X)))} {lists lists' : List (List ℕ)} → found ≡ accepted (some es) → n ≡ length es → Room n lists → Columns es 0 n columns lists lists' → Lists columns found lists lists' (Ok (Some (record { offset = record { 0 = 0 }; length = n })))
  unfolding fitting_rows
  lists_all e count room c = rw count (record { says = rw (e, room_fits (rw count at room)); leaves = rw (e, room_fits (rw count at room)) (over_all c) })
