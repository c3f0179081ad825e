-- How long two tables are as one, in its fewest bytes, and what is written of it. Assumes nothing.
use Rattle.std.specs.Prelude.{ℕ, ◌+◌, ◌≤◌, ◌<◌, List, ◌++◌, ◌≡◌, length}
use Rattle.copying.specs.Bytes.{rows_of, group_of, one_if_some, kept_groups, groups_of}
use Rattle.copying.specs.Standing.{FitsPart}
use Rattle.format.specs.Canonical.{write_part}
use Rattle.format.specs.Joined.{merged, the_first}
use Rattle.format.specs.Numbers.{shortest, limit32}
use Rattle.format.specs.Parts.{Part, sized}
use Rattle.format.specs.Tables.{Table, size, rows, table}
use Rattle.format.specs.declared.Whose.{Whose}
use Rattle.reading.specs.Cursors.{Inside, left as left_of}
use Rattle.reading.specs.Standing.{Stands}
use Rattle.reading.specs.declared.Cursor.{Cursor}
use Rattle.tables.specs.Returned.{Held}
use Rattle.tables.specs.declared.stepping.Rows.{Rows}
use Rattle.writing.specs.Wrote.{Wrote}
use Rattle.joining.specs.Sides.{HeldMaps, Sides, Short, Room, PutsBoth, two_parts}
use Rattle.joining.specs.Steps.{bytes_of, passed_by}
use Rattle.joining.specs.Ahead.{ReadAhead}
use Rattle.joining.specs.declared.rows.Ahead.{Ahead}
use Rattle.joining.specs.declared.maps.Merged.{Merged}
use Rattle.joining.specs.declared.groups.MergedGroups.{MergedGroups}
use Rattle.joining.specs.declared.groups.OneGroup.{OneGroup}
use Rattle.joining.specs.declared.groups.PutGroup.{PutGroup}

-- Maps
module _ (s : List ℕ) (left : Rows) (o : List ℕ) (right : Rows) where
  abbrev pub ShortMaps : Type 0
  ShortMaps = Short sized the_first rows_of s left o right two_parts

  pub record MeasuresMaps (r : Merged) : Type 0 where
    pub ours : Table Part
    pub theirs : Table Part
    pub left_stands : Stands (rows sized left.more 0) s left.next ours r.left
    pub right_stands : Stands (rows sized right.more 0) o right.next theirs r.right
    pub many : r.count ≡ size (merged the_first ours theirs)
    pub long : r.length ≡ length (rows_of (merged the_first ours theirs))

  abbrev pub RoomForMaps : List ℕ → ℕ → Type 0
  RoomForMaps out at = Room sized the_first rows_of s left o right out at

  abbrev pub PutsMaps : (old new : List ℕ) (at next : ℕ) → Type 0
  PutsMaps old new at next = PutsBoth sized the_first rows_of s left o right old new at next

-- the first row of each read ahead
module _ (s : List ℕ) (left : Ahead) (o : List ℕ) (right : Ahead) where
  pub record ShortAhead : Type 0 where
    pub first : ReadAhead s left
    pub second : ReadAhead o right
    pub maps : ShortMaps s left.rows o right.rows

  pub record RoomAhead (out : List ℕ) (at : ℕ) : Type 0 where
    pub first : ReadAhead s left
    pub second : ReadAhead o right
    pub maps : RoomForMaps s left.rows o right.rows out at

-- a row's text, of one of the payloads
pub record FitsText (whose : Whose) (s o : List ℕ) (part : Cursor) (out : List ℕ) (at : ℕ) : Type 0 where
  pub fits : FitsPart (bytes_of whose s o) part out at

pub record PutsText (whose : Whose) (s o : List ℕ) (part : Cursor) (old new : List ℕ) (at next : ℕ) : Type 0 where
  pub wrote : Wrote old new at next (write_part (left_of (bytes_of whose s o) part))

-- and the row, with its index before it
pub record FitsRow (index : ℕ) (whose : Whose) (s o : List ℕ) (part : Cursor) (out : List ℕ) (at : ℕ) : Type 0 where
  pub inside : Inside (bytes_of whose s o) part
  pub small : length (left_of (bytes_of whose s o) part) < limit32
  pub room : at + (length (shortest index) + length (write_part (left_of (bytes_of whose s o) part))) ≤ length out

pub record PutsRow (index : ℕ) (whose : Whose) (s o : List ℕ) (part : Cursor) (old new : List ℕ) (at next : ℕ) : Type 0 where
  pub wrote : Wrote old new at next (shortest index ++ write_part (left_of (bytes_of whose s o) part))

-- Groups
module _ (s : List ℕ) (left : Rows) (o : List ℕ) (right : Rows) where
  abbrev pub ShortGroups : Type 0
  ShortGroups = Short (table sized) (merged the_first) groups_of s left o right two_parts

  pub record MeasuresGroups (r : MergedGroups) : Type 0 where
    pub sides : Sides (table sized) s left o right
    pub many : r.kept ≡ size (kept_groups (merged (merged the_first) sides.ours sides.theirs))
    pub long : r.length ≡ length (groups_of (merged (merged the_first) sides.ours sides.theirs))

  -- room for all of them, which are not too long for a subsection
  pub record RoomForGroups (out : List ℕ) (at : ℕ) : Type 0 where
    pub sides : Sides (table sized) s left o right
    pub room : at + length (groups_of (merged (merged the_first) sides.ours sides.theirs)) ≤ length out
    pub short : length (groups_of (merged (merged the_first) sides.ours sides.theirs)) < limit32

  abbrev pub PutsGroups : (old new : List ℕ) (at next : ℕ) → Type 0
  PutsGroups old new at next = PutsBoth (table sized) (merged the_first) groups_of s left o right old new at next

  -- one group, by its index and the maps of both sides, and its count
  pub record RoomForGroup (index count : ℕ) (out : List ℕ) (at : ℕ) : Type 0 where
    pub sides : Sides sized s left o right
    pub counts : count ≡ size (merged the_first sides.ours sides.theirs)
    pub few : count < limit32
    pub room : at + length (group_of index (merged the_first sides.ours sides.theirs)) ≤ length out

  abbrev pub PutsGroup : (index : ℕ) (old new : List ℕ) (at next : ℕ) → Type 0
  PutsGroup index old new at next = PutsBoth sized the_first (group_of index) s left o right old new at next

-- one group, by its index and the places of its maps: measured and written, and both maps passed
module _ (index : ℕ) (s : List ℕ) (first : Held) (o : List ℕ) (second : Held) where
  pub record ShortGroup : Type 0 where
    pub maps : HeldMaps s first o second
    pub short : length (rows_of (merged the_first maps.ours maps.theirs)) < two_parts

  pub record MeasuresGroup (r : OneGroup) : Type 0 where
    pub maps : HeldMaps s first o second
    pub passed : passed_by s first maps.ours r.left
    pub passed' : passed_by o second maps.theirs r.right
    pub counts : r.one ≡ one_if_some (size (merged the_first maps.ours maps.theirs))
    pub long : r.length ≡ length (group_of index (merged the_first maps.ours maps.theirs))

  pub record RoomForHeld (out : List ℕ) (at : ℕ) : Type 0 where
    pub maps : HeldMaps s first o second
    pub short : length (group_of index (merged the_first maps.ours maps.theirs)) < limit32
    pub room : at + length (group_of index (merged the_first maps.ours maps.theirs)) ≤ length out

  pub record PutsHeld (old new : List ℕ) (at : ℕ) (r : PutGroup) : Type 0 where
    pub maps : HeldMaps s first o second
    pub passed : passed_by s first maps.ours r.left
    pub passed' : passed_by o second maps.theirs r.right
    pub wrote : Wrote old new at r.at (group_of index (merged the_first maps.ours maps.theirs))
