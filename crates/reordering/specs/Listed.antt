-- What is listed of hints of the older edition that stand at a cursor. Assumes nothing.
use Rattle.std.specs.Prelude.{ℕ, ◌^◌, ◌<◌, true, List, ◌≡◌, length}
use Rattle.std.proofs.Math.Option.{some}
use Rattle.format.specs.Entries.{group_rows, older_columns, Lists}
use Rattle.format.specs.Older.{OlderEntry, times, vector, older_entry, sorted_from}
use Rattle.format.specs.OlderInOrder.{rising_entries}
use Rattle.format.specs.Reading.{accepted}
use Rattle.format.specs.Tables.{nil}
use Rattle.format.specs.Returned.{Answer}
use Rattle.in_order.specs.Rows.{entries_rows}
use Rattle.out_of_order.specs.Gathering.{Windowed}
use Rattle.out_of_order.specs.Rows.{rows_here}
use Rattle.reading.specs.Standing.{Stands, Known}
use Rattle.reading.specs.declared.Cursor.{Cursor}

-- entries that a survey found to be in order, and how many rows they are
pub record RisingRows (n : ℕ) (s : List ℕ) (c : Cursor) (rows : ℕ) : Type 0 where
  pub value : List OlderEntry
  pub next : Cursor
  pub stands : Stands (times older_entry n) s c value next
  pub in_order : rising_entries 0 value ≡ true
  pub many : rows ≡ length (entries_rows value)

-- entries whose pairs were counted, and a window
pub record CountedRows (n : ℕ) (s : List ℕ) (c : Cursor) (rows : ℕ) (keys orders : List ℕ) : Type 0 where
  pub known : Known (times older_entry n) s c
  pub far : c.end < 2 ^ 64
  pub many : rows ≡ length (rows_here n s c)
  pub window : Windowed keys orders

-- the entries that stand there are listed
pub record ListsEntries (n : ℕ) (s : List ℕ) (c : Cursor) (lists lists' : List (List ℕ)) (r : Answer) : Type 0 where
  pub value : List OlderEntry
  pub next : Cursor
  pub stands : Stands (times older_entry n) s c value next
  pub listing : Lists older_columns (accepted (some (group_rows (sorted_from nil value)))) lists lists' r

pub record ListsOlder (s : List ℕ) (c : Cursor) (lists lists' : List (List ℕ)) (r : Answer) : Type 0 where
  pub value : List OlderEntry
  pub next : Cursor
  pub stands : Stands (vector older_entry) s c value next
  pub listing : Lists older_columns (accepted (some (group_rows (sorted_from nil value)))) lists lists' r
