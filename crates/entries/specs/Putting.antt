-- What putting rows into lists leaves. Assumes nothing.
use Rattle.std.specs.Prelude.{ℕ, ◌+◌, ◌-◌, ◌^◌, ◌<◌, List, [], ◌∷◌, ◌≡◌, length, get_or}
use Rattle.format.specs.Entries.{Listed, rows_under, group_rows, place_columns, hint_columns}
use Rattle.format.specs.Parts.{Part, sized}
use Rattle.format.specs.Tables.{Table, nil, row, rows, table}
use Rattle.reading.specs.Standing.{Stands}
use Rattle.reading.specs.declared.Cursor.{Cursor}
use Rattle.tables.specs.declared.stepping.Rows.{Rows}
use Rattle.writing.specs.Columns.{Room, Columns}
use Rattle.entries.specs.declared.rows.Put.{Put}

-- ONE ROW stands at a place of the lists: two indices, and where its part lies; or the byte of a hint
pub record Stores (at first second : ℕ) (part : Cursor) (lists lists' : List (List ℕ)) : Type 0 where
  pub stored : (x : Part) → x.at ≡ part.at → length x.bytes ≡ part.end - part.at → Columns (record { first = first; second = second; held = x } ∷ []) at (at + 1) place_columns lists lists'

pub record StoresHint (at first second byte : ℕ) (lists lists' : List (List ℕ)) : Type 0 where
  pub stored : (x : Part) → get_or x.bytes 0 0 ≡ byte → Columns (record { first = first; second = second; held = x } ∷ []) at (at + 1) hint_columns lists lists'

-- THE ROWS OF A MAP, all of which hold such parts: any, or those of one byte
pub data Every {A : Type 0} (P : A → Type 0) : Table A → Type 0 where
  no_row : Every P nil
  and_row : {k : ℕ} {v : A} {t : Table A} → P v → Every P t → Every P (row k v t)

abbrev pub AnyPart : Part → Type 0
AnyPart x = Unit {0}

abbrev pub OneByte : Part → Type 0
OneByte x = length x.bytes ≡ 1

-- rows are to come, and the lists take them all from a place on
pub record RowsFit (P : Part → Type 0) (s : List ℕ) (all : Rows) (start : ℕ) (lists : List (List ℕ)) : Type 0 where
  pub its : Table Part
  pub last : Cursor
  pub stands : Stands (rows sized all.more 0) s all.next its last
  pub every : Every P its
  pub room : Room (start + all.more) lists
  pub below : start + all.more < 2 ^ 64

-- they stand there, under a first index, and the way goes on behind them
pub record PutsRows (columns : List (Listed Part → ℕ)) (s : List ℕ) (all : Rows) (first start : ℕ) (lists lists' : List (List ℕ)) (r : Put) : Type 0 where
  pub its : Table Part
  pub stands : Stands (rows sized all.more 0) s all.next its r.next
  pub put : Columns (rows_under first its) start r.at columns lists lists'
  pub many : r.at ≡ start + all.more

-- THE ROWS OF ALL GROUPS, from the front on
pub record GroupsFit (P : Part → Type 0) (s : List ℕ) (all : Rows) (lists : List (List ℕ)) : Type 0 where
  pub its : Table (Table Part)
  pub last : Cursor
  pub stands : Stands (rows (table sized) all.more 0) s all.next its last
  pub every : Every (Every P) its
  pub room : Room (length (group_rows its)) lists
  pub below : length (group_rows its) < 2 ^ 64

pub record PutsGroups (columns : List (Listed Part → ℕ)) (s : List ℕ) (all : Rows) (lists lists' : List (List ℕ)) : Type 0 where
  pub its : Table (Table Part)
  pub last : Cursor
  pub stands : Stands (rows (table sized) all.more 0) s all.next its last
  pub put : Columns (group_rows its) 0 (length (group_rows its)) columns lists lists'
