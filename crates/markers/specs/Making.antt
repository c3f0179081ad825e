-- What putting markers into two lists leaves. Assumes nothing.
use Rattle.std.specs.Prelude.{ℕ, ◌+◌, ◌/◌, ◌≤◌, ◌<◌, List, map, length}
use Rattle.format.specs.Numbers.{limit32}
use Rattle.format.specs.Parts.{sized}
use Rattle.format.specs.Tables.{rows}
use Rattle.format.specs.Markers.{Entry, entries, all_entries, thinned, fitting_both, Makes}
use Rattle.format.specs.Returned.{Answer}
use Rattle.reading.specs.Standing.{Stands, Known}
use Rattle.reading.specs.declared.Cursor.{Cursor}
use Rattle.tables.specs.declared.stepping.Rows.{Rows}
use Rattle.writing.specs.Wrote.{Wrote}

-- rows are to come, and each list has a place for every sixteenth of them
pub record Room (s : List ℕ) (all : Rows) (is os : List ℕ) : Type 0 where
  pub known : Known (rows sized all.more 0) s all.next
  pub some_there : 0 < all.more
  pub in_indices : (all.more + 15) / 16 ≤ length is
  pub in_offsets : (all.more + 15) / 16 ≤ length os
  pub short : length s < limit32

-- both lists begin with the markers of these rows, and are else what they were
pub record PutsAll (s : List ℕ) (all : Rows) (is os is' os' : List ℕ) : Type 0 where
  pub its : List Entry
  pub last : Cursor
  pub stands : Stands (entries all.more) s all.next its last
  pub indices : Wrote is is' 0 (length (thinned 0 its)) (map (λ e. e.index) (thinned 0 its))
  pub offsets : Wrote os os' 0 (length (thinned 0 its)) (map (λ e. e.offset) (thinned 0 its))

-- of the map that stands there
pub record Marks (s : List ℕ) (c : Cursor) (is os is' os' : List ℕ) (r : Answer) : Type 0 where
  pub its : List Entry
  pub last : Cursor
  pub stands : Stands all_entries s c its last
  pub makes : Makes (fitting_both (length is) (length os) (record { marked = thinned 0 its; end = c.end })) is os is' os' r
