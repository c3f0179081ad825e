-- What functions hand back, by the names that src/ gives these types. Assumes nothing.
use Rattle.std.specs.Prelude.{ℕ, Bool, Result}
use Rattle.format.specs.declared.Refusal.{Refusal}
use Rattle.reading.specs.declared.Cursor.{Cursor}

abbrev pub NumberRead : Type 0
NumberRead = Result (ℕ × Cursor × Bool) Refusal

abbrev pub PartRead : Type 0
PartRead = Result (Cursor × Cursor × Bool) Refusal
