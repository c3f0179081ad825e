-- What is written of metadata that stands at a cursor. Assumes nothing.
use Rattle.std.specs.Prelude.{ℕ, List}
use Rattle.format.specs.Reading.{accepted}
use Rattle.format.specs.Parts.{Part, sized}
use Rattle.format.specs.Tables.{Table, table}
use Rattle.format.specs.Canonical.{rewrite_metadata}
use Rattle.format.specs.Outputs.{Writes}
use Rattle.format.specs.Returned.{Written}
use Rattle.reading.specs.Standing.{Stands}
use Rattle.reading.specs.declared.Cursor.{Cursor}

-- the functions that stand there are written
pub record RewritesItems (s : List ℕ) (c : Cursor) (old new : List ℕ) (r : Written) : Type 0 where
  pub value : Table (Table Part)
  pub next : Cursor
  pub stands : Stands (table (table sized)) s c value next
  pub writes : Writes (accepted (rewrite_metadata value)) old new r
