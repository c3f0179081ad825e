-- What a step does, and what callers may take from it.
use Rattle.std.specs.Prelude.{Some, None}
use Prim.Native.Nat.{ℕ, ◌-◌, ◌<◌}
use mathlib.Core.List.{List}
use mathlib.Core.Path.{◌≡◌}
use native.Mathlib.Omega.{arith}
use borrow.Author.Rules.{rules}
use Rattle.format.specs.Numbers.{number}
use Rattle.format.specs.Parts.{Part, sized}
use Rattle.format.specs.Tables.{Table, rows, table}
use Rattle.format.proofs.Laws.Passing.{sized_passes}
use Rattle.reading.specs.Standing.{Stands, Known, TakesPart}
use Rattle.reading.specs.declared.Cursor.{Cursor}
use Rattle.reading.specs.declared.again.Piece.{Piece}
use Rattle.reading.proofs.Standing.{one_value, one_end}
use Rattle.tables.specs.Stepping.{behind_at, Splits, TakesRow, TakesGroup, RowSteps, GroupSteps}
use Rattle.tables.specs.declared.stepping.Rows.{Rows}
use Rattle.tables.specs.Returned.{RowStep}
use Rattle.tables.specs.Returned.{GroupStep}
use Rattle.tables.proofs.Accepted.{table_passable, known_count, table_rows}
use Rattle.tables.proofs.Along.{index_known, value_known, splits}

module _ {s : List ℕ} {left : Rows} where
  pub row_ends : left.more ≡ 0 → RowSteps s left None
  row_ends h = record { steps = h }

  module _ (w : Known (rows sized left.more 0) s left.next) (h : left.more ≡ 0 → ⊥) where
    pub row_index : Known number s left.next
    row_index = index_known sized left w h

    module _ {k : ℕ} {d : Cursor} (i : Stands number s left.next k d) where
      pub row_value : Known sized s d
      row_value = value_known sized left w h i sized_passes

      pub row_taken : {p : Piece} → TakesPart s d p → RowSteps s left (Some (k, p.part, p.next))
      row_taken p = record { steps = record { place = d; splits = splits sized left w h i p.stands; in_part = p.in_part } }

  pub group_ends : left.more ≡ 0 → GroupSteps s left None
  group_ends h = record { steps = h }

  module _ (w : Known (rows (table sized) left.more 0) s left.next) (h : left.more ≡ 0 → ⊥) where
    pub group_index : Known number s left.next
    group_index = index_known (table sized) left w h

    pub group_taken : {k : ℕ} {d : Cursor} → Stands number s left.next k d → GroupSteps s left (Some (k, d))
    group_taken i =
        let g = value_known (table sized) left w h i (table_passable sized_passes) in
        record { steps = record { value = g.value; next = g.next; splits = splits (table sized) left w h i g.stands } }

pub ruleset row_stepping = (row_ends, row_index, row_value, row_taken, rules)

pub ruleset group_stepping = (group_ends, group_index, group_taken, rules)

-- What callers take from it
module _ {s : List ℕ} {left : Rows} where
  pub no_row : {x : RowStep} → RowSteps s left x → x ≡ None → left.more ≡ 0
  no_row r e = (rw e at r).steps

  pub a_row : {x : RowStep} {k : ℕ} {part next : Cursor} → RowSteps s left x → x ≡ Some (k, part, next) → TakesRow s left k part next
  a_row r e = rw e at r.steps

  pub no_group : {x : GroupStep} → GroupSteps s left x → x ≡ None → left.more ≡ 0
  no_group r e = (rw e at r).steps

  pub a_group : {x : GroupStep} {k : ℕ} {place : Cursor} → GroupSteps s left x → x ≡ Some (k, place) → TakesGroup s left k place
  a_group r e = rw e at r.steps

module _ {s : List ℕ} {left : Rows} {x : RowStep} {k : ℕ} {part next : Cursor} (r : RowSteps s left x) (e : x ≡ Some (k, part, next)) where
  pub row_left : 0 < left.more
  row_left = (a_row r e).splits.some_left

  pub row_fewer : {after : Rows} {n : Cursor} → after ≡ behind_at left n → after.more < left.more
  row_fewer is = rw is (omega (arith, row_left))

-- the table of a row: it stands at its place, so do its count and its rows, and the rows behind it are to come where it ends
module _ {s : List ℕ} {left : Rows} {x : GroupStep} {k : ℕ} {place : Cursor} (r : GroupSteps s left x) (e : x ≡ Some (k, place)) where
  pub group_known : Known (table sized) s place
  group_known = let g = a_group r e in record { value = g.value; next = g.next; stands = g.splits.value }

  pub group_count_known : Known number s place
  group_count_known = known_count sized group_known.stands

  pub group_rows_known : {n : ℕ} {d : Cursor} → Stands number s place n d → Known (rows sized n 0) s d
  group_rows_known j = let g = group_known in record { value = g.value; next = g.next; stands = table_rows sized j g.stands }

  pub group_left : 0 < left.more
  group_left = (a_group r e).splits.some_left

  pub group_fewer : {after : Rows} {n : Cursor} → after ≡ behind_at left n → after.more < left.more
  group_fewer is = rw is (omega (arith, group_left))

  pub group_passed : {v : Table Part} {next : Cursor} → Stands (table sized) s place v next → Splits (table sized) s left k place v next
  group_passed w =
      let g = a_group r e in
      rw (← one_value g.splits.value w, ← one_end g.splits.value w) g.splits
