-- What functions hand back, by the names that src/ gives these types. Assumes nothing.
use Rattle.std.specs.Prelude.{ℕ, Result, Option}
use Rattle.format.specs.declared.Refusal.{Refusal}

abbrev pub Told : Type 0
Told = Result (Option ℕ) Refusal

abbrev pub Row : Type 0
Row = Option ℕ
