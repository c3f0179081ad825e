-- What reading entries by the quick question finds. Assumes nothing.
use Rattle.std.specs.Prelude.{ℕ, List, ◌≡◌, Some, None}
use Rattle.format.specs.Reading.{got, stop}
use Rattle.format.specs.Markers.{entry, first_with}
use Rattle.reading.specs.Cursors.{Inside, left, part_of}
use Rattle.reading.specs.declared.Cursor.{Cursor}
use Rattle.tables.specs.Finding.{HeldInside}
use Rattle.tables.specs.Steps.{held_of}
use Rattle.tables.specs.Returned.{Held}
use Rattle.markers.specs.Returned.{EntryRead}

-- an entry with its text inside what was lent, and the cursor behind it; or that it stops
pub record Takes (s : List ℕ) (c : Cursor) (index : ℕ) (text next : Cursor) : Type 0 where
  pub reads : entry c.at (left s c) ≡ got (record { index = index; offset = c.at; text = part_of s text }) next.at (left s next)
  pub in_text : Inside s text
  pub in_rest : Inside s next

pub record Stops (s : List ℕ) (c : Cursor) : Type 0 where
  pub number : ℕ
  pub at : ℕ
  pub reads : entry c.at (left s c) ≡ stop number at

abbrev pub IsEntryRead : List ℕ → Cursor → EntryRead → Type 0
IsEntryRead s c None = Stops s c
IsEntryRead s c (Some (index, text, next)) = Takes s c index text next

pub record EntryReads (s : List ℕ) (c : Cursor) (r : EntryRead) : Type 0 where
  pub reads : IsEntryRead s c r

pub record FindsFirst (s : List ℕ) (c : Cursor) (key : ℕ) (r : Held) : Type 0 where
  pub finds : held_of s r ≡ first_with 16 key c.at (left s c)
  pub inside : HeldInside s r
