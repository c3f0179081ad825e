-- How many rows there are. Assumes nothing.
use Rattle.std.specs.Prelude.{ℕ, Bool, ◌&&◌, List, ◌≡◌, leb, length}
use Rattle.format.specs.Entries.{group_rows}
use Rattle.format.specs.Parts.{Part, sized}
use Rattle.format.specs.Tables.{Table, rows, table}
use Rattle.reading.specs.Standing.{Stands}
use Rattle.reading.specs.declared.Cursor.{Cursor}
use Rattle.tables.specs.declared.stepping.Rows.{Rows}

-- so many rows are in the groups to come
pub record Counts (s : List ℕ) (all : Rows) (n : ℕ) : Type 0 where
  pub its : Table (Table Part)
  pub last : Cursor
  pub stands : Stands (rows (table sized) all.more 0) s all.next its last
  pub count : n ≡ length (group_rows its)

-- each of the lists takes so many
abbrev pub three_fit : (n first second third : ℕ) → Bool
three_fit n first second third = leb n first && leb n second && leb n third

abbrev pub four_fit : (n first second third fourth : ℕ) → Bool
four_fit n first second third fourth = leb n first && leb n second && leb n third && leb n fourth
