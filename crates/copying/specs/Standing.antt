-- How long what stands at a cursor is in its fewest bytes, and what a write leaves of it. Assumes nothing.
use Rattle.std.specs.Prelude.{ℕ, ◌+◌, ◌≤◌, ◌<◌, List, ◌≡◌, length}
use Rattle.format.specs.Reading.{Reader}
use Rattle.format.specs.Numbers.{limit32}
use Rattle.format.specs.Parts.{Part, sized}
use Rattle.format.specs.Tables.{Table, size, rows, table}
use Rattle.format.specs.Canonical.{write_part}
use Rattle.reading.specs.Cursors.{Inside, left}
use Rattle.reading.specs.Standing.{Stands}
use Rattle.reading.specs.declared.Cursor.{Cursor}
use Rattle.writing.specs.Wrote.{Wrote}
use Rattle.copying.specs.Bytes.{kept_groups, groups_of}
use Rattle.copying.specs.declared.Measured.{Measured}
use Rattle.copying.specs.declared.Groups.{Groups}
use Rattle.copying.specs.declared.Put.{Put}

pub record Measures {A : Type 0} (read : Reader A) (write : A → List ℕ) (s : List ℕ) (c : Cursor) (r : Measured) : Type 0 where
  pub value : A
  pub stands : Stands read s c value r.next
  pub long : r.length ≡ length (write value)

-- what is written of it has room behind `at`
pub record Fits {A : Type 0} (read : Reader A) (write : A → List ℕ) (s : List ℕ) (c : Cursor) (out : List ℕ) (at : ℕ) : Type 0 where
  pub value : A
  pub next : Cursor
  pub stands : Stands read s c value next
  pub room : at + length (write value) ≤ length out

pub record Puts {A : Type 0} (read : Reader A) (write : A → List ℕ) (s : List ℕ) (c : Cursor) (old new : List ℕ) (at : ℕ) (r : Put) : Type 0 where
  pub value : A
  pub stands : Stands read s c value r.next
  pub wrote : Wrote old new at r.at (write value)

-- a part has room behind `at`, with its size before it
pub record FitsPart (s : List ℕ) (part : Cursor) (out : List ℕ) (at : ℕ) : Type 0 where
  pub inside : Inside s part
  pub small : length (left s part) < limit32
  pub room : at + length (write_part (left s part)) ≤ length out

-- so many groups: how many have entries, and how long these are
pub record MeasuresGroups (n : ℕ) (s : List ℕ) (c : Cursor) (r : Groups) : Type 0 where
  pub value : Table (Table Part)
  pub stands : Stands (rows (table sized) n 0) s c value r.next
  pub many : r.kept ≡ size (kept_groups value)
  pub long : r.length ≡ length (groups_of value)
