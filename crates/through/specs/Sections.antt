-- The payload that is asked, and how its items are read. Assumes nothing.
use Rattle.std.specs.Prelude.{ℕ, ◌+◌, cond, List}
use Rattle.format.specs.Bytes.{same}
use Rattle.format.specs.Walk.{branch_hint}
use Rattle.format.specs.declared.Place.{Place}
use Rattle.reading.specs.declared.Cursor.{Cursor}
use Rattle.tables.specs.declared.Item.{Item}
use Rattle.tables.specs.declared.Item.TheVariants.{Data, Hint}

-- the cursor over a place
abbrev pub cursor_over : Place → Cursor
cursor_over p = record { at = p.offset.0; end = p.offset.0 + p.length }

-- of T = branch_hint they are hints
unfoldable pub item_called : List ℕ → Item
item_called format = cond (same format branch_hint) Hint Data
