-- What functions hand back, by the names that src/ gives these types. Assumes nothing.
use Rattle.std.specs.Prelude.{Result, Option}
use Rattle.format.specs.declared.Hint.{Hint}
use Rattle.format.specs.declared.Refusal.{Refusal}
use Rattle.reading.specs.declared.Cursor.{Cursor}

abbrev pub Seek : Type 0
Seek = Result (Option Hint × Cursor) Refusal
