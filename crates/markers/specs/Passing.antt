-- Entries of an accepted map, passed over. Assumes nothing.
use Rattle.std.specs.Prelude.{ℕ, ◌-◌, ◌^◌, ◌≤◌, ◌<◌, List, ◌≡◌}
use Rattle.format.specs.Numbers.{number}
use Rattle.format.specs.Parts.{sized}
use Rattle.format.specs.Tables.{rows}
use Rattle.format.specs.Markers.{Entry, entry, entries}
use Rattle.reading.specs.Standing.{Stands, Known}
use Rattle.reading.specs.declared.Cursor.{Cursor}
use Rattle.tables.specs.declared.stepping.Rows.{Rows}
use Rattle.markers.specs.declared.passing.Index.{Index}

-- a number that has so many bytes before its last one at least, each of them for seven bits
abbrev pub Wide : (width v : ℕ) → Type 0
Wide width v = 0 < width → 128 ^ width ≤ v

-- the index that stands here
pub record IndexHere (s : List ℕ) (c : Cursor) (r : Index) : Type 0 where
  pub next : Cursor
  pub stands : Stands number s c r.value next
  pub wide : Wide r.width r.value

-- an entry stands here, with such an index
pub record EntryThere (width : ℕ) (s : List ℕ) (c : Cursor) : Type 0 where
  pub value : Entry
  pub next : Cursor
  pub stands : Stands entry s c value next
  pub wide : Wide width value.index

-- the cursor behind its index, and behind the whole of it
pub record BehindIndex (s : List ℕ) (c r : Cursor) : Type 0 where
  pub index : ℕ
  pub stands : Stands number s c index r

pub record BehindEntry (s : List ℕ) (c r : Cursor) : Type 0 where
  pub value : Entry
  pub stands : Stands entry s c value r

-- so many rows are ahead, none with an index below one that is wide
pub record Ahead (width n : ℕ) (s : List ℕ) (c : Cursor) : Type 0 where
  pub least : ℕ
  pub wide : Wide width least
  pub known : Known (rows sized n least) s c

-- sixteen of them were passed over, as entries
pub record SixteenOn (s : List ℕ) (left r : Rows) : Type 0 where
  pub passed : List Entry
  pub stands : Stands (entries 16) s left.next passed r.next
  pub known : Known (rows sized r.more 0) s r.next
  pub fewer : r.more ≡ left.more - 16
