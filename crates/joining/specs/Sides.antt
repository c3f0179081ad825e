-- Two tables that were accepted, side by side: the separate payload's and the module's own. Assumes nothing.
use Rattle.std.specs.Prelude.{ℕ, ◌+◌, ◌-◌, ◌≤◌, ◌<◌, List, ◌≡◌, length, Some, None}
use Rattle.format.specs.Joined.{merged}
use Rattle.format.specs.Numbers.{number, limit32}
use Rattle.format.specs.Parts.{Part, sized}
use Rattle.format.specs.Reading.{Reader}
use Rattle.format.specs.Tables.{Table, nil, row, rows, table}
use Rattle.reading.specs.Standing.{Stands, Known}
use Rattle.reading.specs.declared.Cursor.{Cursor}
use Rattle.tables.specs.Returned.{Held}
use Rattle.tables.specs.declared.stepping.Rows.{Rows}
use Rattle.writing.specs.Wrote.{Wrote}

-- a table that is not there has no rows
abbrev pub no_rows : Rows
no_rows = record { next = record { at = 0; end = 0 }; more = 0 }

-- the table that is held
abbrev pub TableHeld : {A : Type 0} → Reader A → List ℕ → Held → Table A → Type 0
TableHeld read s None t = t ≡ nil
TableHeld read s (Some c) t = (next : Cursor) × Stands (table read) s c t next

pub record HeldTable {A : Type 0} (read : Reader A) (s : List ℕ) (held : Held) (t : Table A) : Type 0 where
  pub holds : TableHeld read s held t

-- it lies in a part whose size has 32 bits
abbrev pub SmallHeld : Held → Type 0
SmallHeld None = Unit {0}
SmallHeld (Some c) = c.end - c.at < limit32

pub record HeldSmall (held : Held) : Type 0 where
  pub small : SmallHeld held

-- the count of a table, which stands where the table does, and its rows
abbrev pub CountHeld : List ℕ → Held → Type 0
CountHeld s None = Unit {0}
CountHeld s (Some c) = Known number s c

pub record HeldCount (s : List ℕ) (held : Held) : Type 0 where
  pub known : CountHeld s held

abbrev pub RowsHeld : List ℕ → Held → Rows → Type 0
RowsHeld s None r = r ≡ no_rows
RowsHeld s (Some c) r = Stands number s c r.more r.next

pub record HeldRows (s : List ℕ) (held : Held) (r : Rows) : Type 0 where
  pub opens : RowsHeld s held r

-- Two maps that are held, one on each side
pub record HeldMaps (s : List ℕ) (first : Held) (o : List ℕ) (second : Held) : Type 0 where
  pub ours : Table Part
  pub theirs : Table Part
  pub first_holds : HeldTable sized s first ours
  pub second_holds : HeldTable sized o second theirs

-- The rows to come on both sides
pub record Sides {A : Type 0} (read : Reader A) (s : List ℕ) (left : Rows) (o : List ℕ) (right : Rows) : Type 0 where
  pub ours : Table A
  pub theirs : Table A
  pub last : Cursor
  pub last' : Cursor
  pub left_stands : Stands (rows read left.more 0) s left.next ours last
  pub right_stands : Stands (rows read right.more 0) o right.next theirs last'

-- merged they are one row, and those to come at two other places merged
pub record Parted {A : Type 0} (read : Reader A) (both : A → A → A) (s : List ℕ) (left : Rows) (o : List ℕ) (right : Rows) (k : ℕ) (v : A) (left' right' : Rows) : Type 0 where
  pub sides : Sides read s left o right
  pub others : Sides read s left' o right'
  pub same_last : others.last ≡ sides.last
  pub same_last' : others.last' ≡ sides.last'
  pub merge : merged both sides.ours sides.theirs ≡ row k v (merged both others.ours others.theirs)

-- what two parts hold together has fewer bytes than so many, so that sums stay far from what 64 bits hold
abbrev pub two_parts : ℕ
two_parts = 8_589_934_592

-- What is written of the merge: that it is short, that it has room behind `at`, and that it was written there
module _ {A : Type 0} (read : Reader A) (both : A → A → A) (write : Table A → List ℕ) (s : List ℕ) (left : Rows) (o : List ℕ) (right : Rows) where
  pub record Short (limit : ℕ) : Type 0 where
    pub sides : Sides read s left o right
    pub short : length (write (merged both sides.ours sides.theirs)) < limit

  pub record Room (out : List ℕ) (at : ℕ) : Type 0 where
    pub sides : Sides read s left o right
    pub room : at + length (write (merged both sides.ours sides.theirs)) ≤ length out

  pub record PutsBoth (old new : List ℕ) (at next : ℕ) : Type 0 where
    pub sides : Sides read s left o right
    pub wrote : Wrote old new at next (write (merged both sides.ours sides.theirs))
