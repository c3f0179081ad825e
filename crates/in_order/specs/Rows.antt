-- Entries in order as rows, one a hint, and entries that stand at a cursor as rows of three lists. Assumes nothing.
use Rattle.std.specs.Prelude.{ℕ, ◌+◌, List, [], ◌∷◌, ◌++◌, ◌≡◌, length}
use Rattle.copying.specs.declared.Put.{Put}
use Rattle.format.specs.Entries.{Listed, older_columns}
use Rattle.format.specs.Older.{OlderHint, OlderEntry, kind_number, times, older_entry}
use Rattle.format.specs.OlderInOrder.{rising_entries}
use Rattle.format.specs.Reading.{Reader}
use Rattle.format.specs.declared.Hint.{Hint}
use Rattle.reading.specs.Standing.{Stands}
use Rattle.reading.specs.declared.Cursor.{Cursor}
use Rattle.writing.specs.Columns.{Room, Columns}
use Rattle.in_order.specs.declared.rows.RowSurvey.{RowSurvey}

unfoldable pub hints_rows : (function : ℕ) → List OlderHint → List (Listed Hint)
hints_rows function [] = []
hints_rows function (h ∷ hs) = record { first = function; second = h.offset; held = h.kind } ∷ hints_rows function hs

unfoldable pub entries_rows : List OlderEntry → List (Listed Hint)
entries_rows [] = []
entries_rows (e ∷ es) = hints_rows e.function e.hints ++ entries_rows es

-- so many entries: whether they and their hints rise, and how many rows they are
pub record SurveysRows (n : ℕ) (s : List ℕ) (c : Cursor) (r : RowSurvey) : Type 0 where
  pub value : List OlderEntry
  pub stands : Stands (times older_entry n) s c value r.next
  pub order : r.rising ≡ rising_entries 0 value
  pub many : r.rows ≡ length (entries_rows value)

-- one row stands at a place of the lists
pub record StoresRow (at function offset kind : ℕ) (lists lists' : List (List ℕ)) (r : ℕ) : Type 0 where
  pub next_is : r ≡ at + 1
  pub stored : (x : Hint) → kind_number x ≡ kind → Columns (record { first = function; second = offset; held = x } ∷ []) at r older_columns lists lists'

-- the rows of what stands there have room from `at` on
pub record FitsRows {A : Type 0} (read : Reader A) (rows : A → List (Listed Hint)) (s : List ℕ) (c : Cursor) (lists : List (List ℕ)) (at : ℕ) : Type 0 where
  pub value : A
  pub next : Cursor
  pub stands : Stands read s c value next
  pub room : Room (at + length (rows value)) lists

pub record PutsRows {A : Type 0} (read : Reader A) (rows : A → List (Listed Hint)) (s : List ℕ) (c : Cursor) (lists lists' : List (List ℕ)) (at : ℕ) (r : Put) : Type 0 where
  pub value : A
  pub stands : Stands read s c value r.next
  pub put : Columns (rows value) at r.at older_columns lists lists'

-- all rows at the front
pub record PutsAll (n : ℕ) (s : List ℕ) (c : Cursor) (lists lists' : List (List ℕ)) : Type 0 where
  pub value : List OlderEntry
  pub next : Cursor
  pub stands : Stands (times older_entry n) s c value next
  pub put : Columns (entries_rows value) 0 (length (entries_rows value)) older_columns lists lists'
