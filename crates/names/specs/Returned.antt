-- What functions hand back, by the names that src/ gives these types. Assumes nothing.
use Rattle.std.specs.Prelude.{ℕ, Bool, Result, Option}
use Rattle.format.specs.declared.Refusal.{Refusal}
use Rattle.reading.specs.declared.Cursor.{Cursor}

abbrev pub FrameRead : Type 0
FrameRead = Result (Option (ℕ × Cursor × Cursor × Bool)) Refusal
