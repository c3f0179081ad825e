-- Rows put into lists: one row, and the loop over the rows of a map, for any number of lists.
use Rattle.std.specs.Prelude.{Some, None}
use Prim.Native.Nat.{ℕ, ◌+◌, ◌-◌, ◌^◌, ◌≤◌, ◌<◌}
use mathlib.Core.List.{List, [], ◌∷◌, ◌++◌}
use mathlib.Core.Path.{◌≡◌, refl, sym, ap, ◌∙◌}
use native.Mathlib.Omega.{arith}
use borrow.Author.Rules.{rules}
use lib.ListN.{length, set}
use lib.Seq.{append_snoc, length-slice}
use Rattle.format.specs.Entries.{Listed, rows_under, place_columns}
use Rattle.format.specs.Parts.{Part, sized}
use Rattle.format.specs.Tables.{Table, row, rows}
use Rattle.reading.specs.Cursors.{part_of}
use Rattle.reading.specs.Standing.{Known}
use Rattle.reading.specs.declared.Cursor.{Cursor}
use Rattle.tables.specs.Stepping.{behind_at, RowSteps}
use Rattle.tables.specs.Returned.{RowStep}
use Rattle.tables.specs.declared.stepping.Rows.{Rows}
use Rattle.tables.proofs.Along.{Along, setting_out, still_known, ended, onward}
use Rattle.tables.proofs.StepLaws.{no_row as no_row_left, a_row, row_left, row_fewer}
use Rattle.writing.specs.Columns.{Room, another, Columns, column, no_column}
use Rattle.writing.proofs.Laws.{wrote_byte, wrote_length}
use Rattle.writing.proofs.Columns.{less_room, same_room, no_rows_put, columns_join}
use Rattle.entries.specs.Putting.{Stores, Every, and_row, RowsFit, PutsRows}

-- A place in each of the lists
others : {n : ℕ} {a : List ℕ} {ls : List (List ℕ)} → Room n (a ∷ ls) → Room n ls
others (another h r) = r

pub in_first : {at : ℕ} {a : List ℕ} {ls : List (List ℕ)} → Room (at + 1) (a ∷ ls) → at < length a
in_first (another h r) = omega (arith, h)

pub in_second : {at : ℕ} {x a : List ℕ} {ls : List (List ℕ)} → Room (at + 1) (x ∷ a ∷ ls) → at < length a
in_second r = in_first (others r)

pub in_third : {at : ℕ} {x y a : List ℕ} {ls : List (List ℕ)} → Room (at + 1) (x ∷ y ∷ a ∷ ls) → at < length a
in_third r = in_second (others r)

pub in_fourth : {at : ℕ} {x y z a : List ℕ} {ls : List (List ℕ)} → Room (at + 1) (x ∷ y ∷ z ∷ a ∷ ls) → at < length a
in_fourth r = in_third (others r)

-- the lists are as long as before
module _ {es : List (Listed Part)} {from to : ℕ} where
  pub long_first : {columns : List (Listed Part → ℕ)} {a a' : List ℕ} {ls ls' : List (List ℕ)} → Columns es from to columns (a ∷ ls) (a' ∷ ls') → length a' ≡ length a
  long_first (column w c) = wrote_length w

  pub long_second : {columns : List (Listed Part → ℕ)} {x x' a a' : List ℕ} {ls ls' : List (List ℕ)} → Columns es from to columns (x ∷ a ∷ ls) (x' ∷ a' ∷ ls') → length a' ≡ length a
  long_second (column w c) = long_first c

  pub long_third : {columns : List (Listed Part → ℕ)} {x x' y y' a a' : List ℕ} {ls ls' : List (List ℕ)} → Columns es from to columns (x ∷ y ∷ a ∷ ls) (x' ∷ y' ∷ a' ∷ ls') → length a' ≡ length a
  long_third (column w c) = long_second c

  pub long_fourth : {columns : List (Listed Part → ℕ)} {x x' y y' z z' a a' : List ℕ} {ls ls' : List (List ℕ)} → Columns es from to columns (x ∷ y ∷ z ∷ a ∷ ls) (x' ∷ y' ∷ z' ∷ a' ∷ ls') → length a' ≡ length a
  long_fourth (column w c) = long_third c

-- ONE ROW
module _ {at first second : ℕ} {part : Cursor} {a b c d : List ℕ} where
  pub row_stored : Room (at + 1) (a ∷ b ∷ c ∷ d ∷ []) → Stores at first second part (a ∷ b ∷ c ∷ d ∷ []) (set a at first ∷ set b at second ∷ set c at part.at ∷ set d at (part.end - part.at) ∷ [])
  row_stored r = record { stored = λ x e l. column (wrote_byte (in_first r)) (column (wrote_byte (in_second r)) (column {shows = λ e. e.held.at} {l = c} {l' = set c at part.at} (rw e (wrote_byte (in_third r))) (column {shows = λ e. length e.held.bytes} {l = d} {l' = set d at (part.end - part.at)} (rw l (wrote_byte (in_fourth r))) no_column))) }

pub ruleset storing = (in_first, in_second, in_third, in_fourth, row_stored, rules)

-- nothing behind a list
pub append_none : {A : Type 0} (l : List A) → l ++ [] ≡ l
append_none [] = refl
append_none (x ∷ l) = ap (λ m. x ∷ m) (append_none l)

-- THE ROWS: whenever the loop is at its beginning, some are put, and those to come fit behind them
module _ (columns : List (Listed Part → ℕ)) (P : Part → Type 0) (s : List ℕ) (all : Rows) (first start : ℕ) (lists lists' : List (List ℕ)) where
  pub record Putting (left : Rows) (at : ℕ) : Type 0 where
    pub along : Along sized s all left
    pub every : Every P along.to_come_lem
    pub done : List (Listed Part)
    pub split : rows_under first along.all ≡ done ++ rows_under first along.to_come_lem
    pub put : Columns done start at columns lists lists'
    pub room : Room (at + left.more) lists'
    pub counts : at + left.more ≡ start + all.more
    pub below : start + all.more < 2 ^ 64

-- the first of such rows, and the others
pub every_first : {A : Type 0} {P : A → Type 0} {k : ℕ} {v : A} {t : Table A} → Every P (row k v t) → P v
every_first (and_row p e) = p

pub every_other : {A : Type 0} {P : A → Type 0} {k : ℕ} {v : A} {t : Table A} → Every P (row k v t) → Every P t
every_other (and_row p e) = e

module _ {columns : List (Listed Part → ℕ)} {P : Part → Type 0} {s : List ℕ} {all : Rows} {first start : ℕ} {lists : List (List ℕ)} where
  pub putting_begins : RowsFit P s all start lists → length columns ≡ length lists → Putting columns P s all first start lists lists all start
  putting_begins f e = record { along = setting_out f.stands; every = f.every; done = []; split = refl; put = no_rows_put columns e (less_room f.room (omega arith)); room = f.room; counts = refl; below = f.below }

  module _ {lists' : List (List ℕ)} {left : Rows} {at : ℕ} (t : Putting columns P s all first start lists lists' left at) where
    pub rows_known : Known (rows sized left.more 0) s left.next
    rows_known = still_known t.along

    module _ {x : RowStep} (r : RowSteps s left x) where
      pub rows_put : x ≡ None → PutsRows columns s all first start lists lists' (record { at = at; next = left.next })
      unfolding rows_under
      rows_put h =
          let none_left = no_row_left r h in
          let e = ended t.along none_left in
          let all_done : rows_under first t.along.all ≡ t.done = t.split ∙ ap (λ u. t.done ++ rows_under first u) e.nothing ∙ append_none t.done in
          let end : at ≡ start + all.more = omega (arith, t.counts, none_left) in
          record { its = t.along.all; stands = e.stands; put = rw all_done t.put; many = end }

      module _ {k : ℕ} {part next : Cursor} (e : x ≡ Some (k, part, next)) where
        pub row_room : Room (at + 1) lists'
        row_room = less_room t.room (omega (arith, row_left r e))

        pub at_fits : at + 1 < 2 ^ 64
        at_fits = omega (arith, t.counts, t.below, row_left r e)

        pub part_ordered : part.at ≤ part.end
        part_ordered = (a_row r e).in_part.ahead

        pub row_fits : P (part_of s part)
        row_fits = every_first (rw (onward t.along (a_row r e).splits).split at t.every)

        pub puts_on : {lists'' : List (List ℕ)} {after : Rows} → Columns (record { first = first; second = k; held = part_of s part } ∷ []) at (at + 1) columns lists' lists'' → after ≡ behind_at left next → Putting columns P s all first start lists lists'' after (at + 1)
        unfolding rows_under
        puts_on w is =
            let p = (a_row r e).splits in
            let o = onward t.along p in
            let more = row_left r e in
            let next_room : at + left.more ≡ at + 1 + (left.more - 1) = omega (arith, more) in
            rw is (record {
              along = o.along;
              every = every_other (rw o.split at t.every);
              done = t.done ++ record { first = first; second = k; held = part_of s part } ∷ [];
              split = rw o.same_all (t.split ∙ ap (λ u. t.done ++ rows_under first u) o.split ∙ sym (append_snoc t.done _ _));
              put = columns_join t.put w;
              room = rw next_room at (same_room w t.room);
              counts = omega (arith, t.counts, more);
              below = t.below;
            })

-- into four lists
module _ {P : Part → Type 0} {s : List ℕ} {all : Rows} {first start : ℕ} {lists lists' : List (List ℕ)} {left : Rows} {at : ℕ} (t : Putting place_columns P s all first start lists lists' left at) {x : RowStep} (r : RowSteps s left x) {k : ℕ} {part next : Cursor} (e : x ≡ Some (k, part, next)) where
  pub place_put : {lists'' : List (List ℕ)} {after : Rows} → Stores at first k part lists' lists'' → after ≡ behind_at left next → Putting place_columns P s all first start lists lists'' after (at + 1)
  place_put w is = let i = (a_row r e).in_part in puts_on t r e (w.stored (part_of s part) refl (length-slice part.at part.end s i.within)) is

pub ruleset putting = (putting_begins, rows_known, rows_put, row_room, part_ordered, place_put, at_fits, long_first, long_second, long_third, long_fourth, row_left, row_fewer, rules)
