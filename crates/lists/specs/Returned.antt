-- What functions hand back, by the names that src/ gives these types. Assumes nothing.
use Rattle.std.specs.Prelude.{ℕ, Result}
use Rattle.format.specs.declared.Refusal.{Refusal}

abbrev pub Checked : Type 0
Checked = Result (Unit {0}) Refusal

abbrev pub Contents : Type 0
Contents = Result ℕ Refusal
