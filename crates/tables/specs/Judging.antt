-- What judging a map of names finds, where nothing is looked for. Assumes nothing.
use Rattle.std.specs.Prelude.{ℕ, zero, suc, ◌≤◌, Bool, true, false, List, ◌≡◌, Ok, Err}
use Rattle.format.specs.Reading.{◌>>=◌, Outcome, got, Reader, return}
use Rattle.format.specs.Numbers.{number}
use Rattle.format.specs.Parts.{name}
use Rattle.format.specs.Tables.{table}
use Rattle.reading.specs.Cursors.{left, refusal_of, number_outcome}
use Rattle.reading.specs.declared.Cursor.{Cursor}
use Rattle.reading.specs.Returned.{NumberRead}
use Rattle.tables.specs.Steps.{index_from}
use Rattle.tables.specs.Returned.{Judged}
use Rattle.tables.specs.Returned.{JudgedRow}

-- what is read is not kept
abbrev pub passed : {A : Type 0} → Reader A → Reader (Unit {0})
passed read = do
  v ← read
  return tt

-- a map of names; a nested one is a map of such maps
abbrev pub name_map_read : Bool → Reader (Unit {0})
name_map_read true = passed (table (table name))
name_map_read false = passed (table name)

abbrev pub judged_outcome : List ℕ → Judged → Outcome (Unit {0})
judged_outcome s (Ok next) = got tt next.at (left s next)
judged_outcome s (Err r) = refusal_of r

-- the next cursor has the same part around it, and is not behind that part's end
abbrev pub JudgedEnd : ℕ → Judged → Type 0
JudgedEnd end (Ok next) = (next.at ≤ end) × (next.end ≡ end)
JudgedEnd end (Err r) = Unit {0}

pub record Judges (read : Reader (Unit {0})) (s : List ℕ) (c : Cursor) (r : Judged) : Type 0 where
  pub means : judged_outcome s r ≡ read c.at (left s c)
  pub same_part : JudgedEnd c.end r

-- A row: its number, at least `least`, and its value
unfoldable pub numbered : {A : Type 0} → (ℕ → Reader ℕ) → Reader A → ℕ → Reader ℕ
numbered index value least = do
  k ← index least
  v ← value
  return k

-- n rows, the number of each above the one before
unfoldable pub steps : (ℕ → Reader ℕ) → (n least : ℕ) → Reader (Unit {0})
steps step zero least = return tt
steps step (suc n) least = do
  k ← step least
  steps step n (suc k)

-- The lists of a map: nested ones have a number each, and are counted; else there is one, which has none
unfoldable pub list_number : Bool → ℕ → Reader ℕ
list_number true least = index_from least
list_number false least = return 0

unfoldable pub list_count : Bool → Reader ℕ
list_count true = number
list_count false = return 1

abbrev pub listed : Bool → ℕ → Reader ℕ
listed nested = numbered (list_number nested) (table name)

abbrev pub row_outcome : List ℕ → JudgedRow → Outcome ℕ
row_outcome s (Ok (k, next)) = got k next.at (left s next)
row_outcome s (Err r) = refusal_of r

abbrev pub RowEnd : ℕ → JudgedRow → Type 0
RowEnd end (Ok (k, next)) = (next.at ≤ end) × (next.end ≡ end)
RowEnd end (Err r) = Unit {0}

pub record RowJudges (step : ℕ → Reader ℕ) (least : ℕ) (s : List ℕ) (c : Cursor) (r : JudgedRow) : Type 0 where
  pub means : row_outcome s r ≡ step least c.at (left s c)
  pub same_part : RowEnd c.end r

-- a number that is read, or stands for one
abbrev pub CountEnd : ℕ → NumberRead → Type 0
CountEnd end (Ok (k, next, shortest)) = (next.at ≤ end) × (next.end ≡ end)
CountEnd end (Err r) = Unit {0}

pub record Counts (read : Reader ℕ) (s : List ℕ) (c : Cursor) (r : NumberRead) : Type 0 where
  pub means : number_outcome s r ≡ read c.at (left s c)
  pub same_part : CountEnd c.end r
