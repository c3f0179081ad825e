-- The way through a table that was accepted, a row at a time. Assumes nothing.
use Rattle.std.specs.Prelude.{ℕ, suc, ◌-◌, ◌<◌, List, ◌≡◌, Some, None}
use Rattle.format.specs.Reading.{Reader}
use Rattle.format.specs.Numbers.{number}
use Rattle.format.specs.Parts.{Part, sized}
use Rattle.format.specs.Tables.{Table, row, rows, table}
use Rattle.reading.specs.Cursors.{Inside, part_of}
use Rattle.reading.specs.Standing.{Stands}
use Rattle.reading.specs.declared.Cursor.{Cursor}
use Rattle.tables.specs.declared.stepping.Rows.{Rows}
use Rattle.tables.specs.Returned.{RowStep}
use Rattle.tables.specs.Returned.{GroupStep}

-- the rows behind the next one, which ends at a cursor
abbrev pub behind_at : Rows → Cursor → Rows
behind_at left next = record { next = next; more = left.more - 1 }

-- The rows to come are one, and others behind it with greater numbers. Its own number stands where they begin, and its value at a place behind that
pub record Splits {A : Type 0} (read : Reader A) (s : List ℕ) (left : Rows) (k : ℕ) (place : Cursor) (v : A) (next : Cursor) : Type 0 where
  pub others : Table A
  pub last : Cursor
  pub to_come_lem : Stands (rows read left.more 0) s left.next (row k v others) last
  pub others_come : Stands (rows read (left.more - 1) (suc k)) s next others last
  pub index : Stands number s left.next k place
  pub value : Stands read s place v next
  pub some_left : 0 < left.more

pub record TakesRow (s : List ℕ) (left : Rows) (k : ℕ) (part next : Cursor) : Type 0 where
  pub place : Cursor
  pub splits : Splits sized s left k place (part_of s part) next
  pub in_part : Inside s part

pub record TakesGroup (s : List ℕ) (left : Rows) (k : ℕ) (place : Cursor) : Type 0 where
  pub value : Table Part
  pub next : Cursor
  pub splits : Splits (table sized) s left k place value next

-- a step ends where no row is to come, and nowhere else
abbrev pub RowStepped : List ℕ → Rows → RowStep → Type 0
RowStepped s left None = left.more ≡ 0
RowStepped s left (Some (k, part, next)) = TakesRow s left k part next

abbrev pub GroupStepped : List ℕ → Rows → GroupStep → Type 0
GroupStepped s left None = left.more ≡ 0
GroupStepped s left (Some (k, place)) = TakesGroup s left k place

pub record RowSteps (s : List ℕ) (left : Rows) (r : RowStep) : Type 0 where
  pub steps : RowStepped s left r

pub record GroupSteps (s : List ℕ) (left : Rows) (r : GroupStep) : Type 0 where
  pub steps : GroupStepped s left r
