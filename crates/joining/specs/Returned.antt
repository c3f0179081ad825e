-- What functions hand back, by the names that src/ gives these types. Assumes nothing.
use Rattle.std.specs.Prelude.{ℕ, Option}
use Rattle.joining.specs.declared.contents.Sizes.{Sizes}

abbrev pub Left : Type 0
Left = Option Sizes

abbrev pub Total : Type 0
Total = Option ℕ
