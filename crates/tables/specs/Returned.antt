-- What functions hand back, by the names that src/ gives these types. Assumes nothing.
use Rattle.std.specs.Prelude.{ℕ, Result, Option}
use Rattle.format.specs.declared.Refusal.{Refusal}
use Rattle.reading.specs.declared.Cursor.{Cursor}

abbrev pub Held : Type 0
Held = Option Cursor

abbrev pub Seek : Type 0
Seek = Result (Held × Cursor) Refusal

abbrev pub RowRead : Type 0
RowRead = Result (ℕ × Held × Cursor) Refusal

abbrev pub RowStep : Type 0
RowStep = Option (ℕ × Cursor × Cursor)

abbrev pub GroupStep : Type 0
GroupStep = Option (ℕ × Cursor)

abbrev pub Judged : Type 0
Judged = Result Cursor Refusal

abbrev pub JudgedRow : Type 0
JudgedRow = Result (ℕ × Cursor) Refusal

abbrev pub Tidy : Type 0
Tidy = Option Cursor

abbrev pub TidyRow : Type 0
TidyRow = Option (ℕ × Cursor)
