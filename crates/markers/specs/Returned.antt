-- What functions hand back, by the names that src/ gives these types. Assumes nothing.
use Rattle.std.specs.Prelude.{ℕ, Result, Option}
use Rattle.reading.specs.declared.Cursor.{Cursor}

abbrev pub EntryRead : Type 0
EntryRead = Option (ℕ × Cursor × Cursor)

abbrev pub Looked : Type 0
Looked = Result (Option ℕ) ℕ
