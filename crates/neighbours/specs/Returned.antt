-- What functions hand back, by the names that src/ gives these types. Assumes nothing.
use Rattle.std.specs.Prelude.{ℕ, Option}

abbrev pub Neighbour : Type 0
Neighbour = Option ℕ
