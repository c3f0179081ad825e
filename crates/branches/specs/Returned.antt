-- What functions hand back, by the names that src/ gives these types. Assumes nothing.
use Rattle.std.specs.Prelude.{ℕ, Result}
use Rattle.format.specs.declared.Refusal.{Refusal}
use Rattle.reading.specs.declared.Cursor.{Cursor}

abbrev pub BodiesRead : Type 0
BodiesRead = Result (Cursor × ℕ) Refusal

abbrev pub Sat : Type 0
Sat = Result Cursor Refusal

abbrev pub Counted : Type 0
Counted = Result ℕ Refusal

abbrev pub Read : Type 0
Read = Result (ℕ × Cursor) Refusal
