-- What telling whether a list is canonical finds, K10. Assumes nothing.
use Rattle.std.specs.Prelude.{ℕ, suc, ◌≤◌, Bool, false, List, ◌≡◌, eqb, Some, None}
use Rattle.std.proofs.Math.Option.{Option}
use Rattle.format.specs.Reading.{Reader}
use Rattle.format.specs.Tables.{rows}
use Rattle.format.specs.Forms.{Told, behind, no, told, rows_form}
use Rattle.reading.specs.Cursors.{left}
use Rattle.reading.specs.declared.Cursor.{Cursor}
use Rattle.tables.specs.Returned.{Tidy}
use Rattle.tables.specs.Returned.{TidyRow}

abbrev pub tidy_told : List ℕ → Tidy → Told
tidy_told s (Some next) = behind next.at (left s next)
tidy_told s None = no

-- the next cursor has the same part around it, and is not behind that part's end
abbrev pub TidyEnd : ℕ → Tidy → Type 0
TidyEnd end (Some next) = (next.at ≤ end) × (next.end ≡ end)
TidyEnd end None = Unit {0}

-- what is read at a cursor, told by its canonical form
pub record Tells {A : Type 0} (read : Reader A) (form_of : A → Option (List ℕ)) (s : List ℕ) (c : Cursor) (r : Tidy) : Type 0 where
  pub means : tidy_told s r ≡ told form_of (left s c) (read c.at (left s c))
  pub same_part : TidyEnd c.end r

-- nothing is left over behind what is canonical
abbrev pub is_filled : Tidy → Bool
is_filled (Some next) = eqb next.at next.end
is_filled None = false

-- n rows
abbrev pub TellsRows : {A : Type 0} (read : Reader A) (form_of : A → Option (List ℕ)) (n : ℕ) (s : List ℕ) (c : Cursor) (r : Tidy) → Type 0
TellsRows read form_of n s c r = Tells (rows read n 0) (rows_form form_of) s c r

-- one row, as it is passed: what is told of rows that begin with it is told of those behind it
module _ {A : Type 0} (read : Reader A) (form_of : A → Option (List ℕ)) where
  abbrev pub rows_at : (n least : ℕ) → List ℕ → Cursor → Told
  rows_at n least s c = told (rows_form form_of) (left s c) (rows read n least c.at (left s c))

  abbrev pub RowTold : (least : ℕ) → List ℕ → Cursor → TidyRow → Type 0
  RowTold least s c (Some (k, next)) = (n : ℕ) → rows_at (suc n) least s c ≡ rows_at n (suc k) s next
  RowTold least s c None = (n : ℕ) → rows_at (suc n) least s c ≡ no

  abbrev pub RowEnd : ℕ → TidyRow → Type 0
  RowEnd end (Some (k, next)) = (next.at ≤ end) × (next.end ≡ end)
  RowEnd end None = Unit {0}

  pub record RowTells (least : ℕ) (s : List ℕ) (c : Cursor) (r : TidyRow) : Type 0 where
    pub means : RowTold least s c r
    pub same_part : RowEnd c.end r
