-- What comes next of two tables, side by side. Assumes nothing.
use Rattle.std.specs.Prelude.{ℕ, ◌+◌, ◌<◌, List, ◌≡◌, length, Option, Some, None}
use Rattle.format.specs.Joined.{merged, the_first}
use Rattle.format.specs.Numbers.{limit32}
use Rattle.format.specs.Parts.{Part, sized}
use Rattle.format.specs.Tables.{Table, table}
use Rattle.format.specs.declared.Whose.{Whose}
use Rattle.format.specs.declared.Whose.TheVariants.{Separate, Own}
use Rattle.reading.specs.Cursors.{Inside, left as left_of, part_of}
use Rattle.reading.specs.Standing.{Stands}
use Rattle.reading.specs.declared.Cursor.{Cursor}
use Rattle.tables.specs.Stepping.{behind_at}
use Rattle.tables.specs.Returned.{Held}
use Rattle.tables.specs.declared.stepping.Rows.{Rows}
use Rattle.joining.specs.Sides.{HeldMaps, Parted}
use Rattle.joining.specs.declared.rows.NextRow.{NextRow}

-- the payload of the two
abbrev pub bytes_of : Whose → (separate own : List ℕ) → List ℕ
bytes_of Separate s o = s
bytes_of Own s o = o

module _ (s : List ℕ) (left : Rows) (o : List ℕ) (right : Rows) where
  -- A row of the merge of two maps, whose text lies in one of the payloads; fewer rows are to come behind it
  pub record TakesNext (whose : Whose) (k : ℕ) (part : Cursor) (left' right' : Rows) : Type 0 where
    pub parted : Parted sized the_first s left o right k (part_of (bytes_of whose s o) part) left' right'
    pub in_part : Inside (bytes_of whose s o) part
    pub small : length (left_of (bytes_of whose s o) part) < limit32
    pub fewer : left'.more + right'.more < left.more + right.more
    -- the rows of a side are the same, or fewer
    pub same_left : left'.more ≡ left.more → left' ≡ left
    pub same_right : right'.more ≡ right.more → right' ≡ right

  -- it ends where no row is to come on either side, and nowhere else
  abbrev pub IsRowNext : Option NextRow → Type 0
  IsRowNext None = (left.more ≡ 0) × (right.more ≡ 0)
  IsRowNext (Some row) = TakesNext row.whose row.index row.part row.first row.second

  pub record RowNext (r : Option NextRow) : Type 0 where
    pub steps : IsRowNext r

-- the rows behind the next one, where that was taken
unfoldable pub behind_taken : Rows → Held → Cursor → Rows
behind_taken left None next = left
behind_taken left (Some c) next = behind_at left next

-- a row that is taken was to come
abbrev pub SomeTaken : Rows → Held → Type 0
SomeTaken left None = Unit {0}
SomeTaken left (Some c) = 0 < left.more

pub record Taken (left : Rows) (held : Held) : Type 0 where
  pub some_left : SomeTaken left held

-- the cursor behind a map that is held
abbrev pub passed_by : List ℕ → Held → Table Part → Cursor → Type 0
passed_by s None v next = Unit {0}
passed_by s (Some c) v next = Stands (table sized) s c v next

module _ (s : List ℕ) (left : Rows) (o : List ℕ) (right : Rows) where
  -- A group of the merge of two lists of groups, by the maps that each side has for it; the groups behind it are known once these maps were passed
  pub record TakesGroups (k : ℕ) (first second : Held) : Type 0 where
    pub maps : HeldMaps s first o second
    pub first_taken : Taken left first
    pub second_taken : Taken right second
    pub parted : (next next' : Cursor) → passed_by s first maps.ours next → passed_by o second maps.theirs next' → Parted (table sized) (merged the_first) s left o right k (merged the_first maps.ours maps.theirs) (behind_taken left first next) (behind_taken right second next')
    pub fewer : (next next' : Cursor) → (behind_taken left first next).more + (behind_taken right second next').more < left.more + right.more

  abbrev pub IsGroupNext : Option (ℕ × Held × Held) → Type 0
  IsGroupNext None = (left.more ≡ 0) × (right.more ≡ 0)
  IsGroupNext (Some (k, first, second)) = TakesGroups k first second

  pub record GroupNext (r : Option (ℕ × Held × Held)) : Type 0 where
    pub steps : IsGroupNext r
