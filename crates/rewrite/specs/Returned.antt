-- What functions hand back, by the names that src/ gives these types. Assumes nothing.
use Rattle.std.specs.Prelude.{ℕ, Option}
use Rattle.rewrite.specs.declared.contents.Sizes.{Sizes}
use Rattle.names.specs.declared.frames.Framed.{Framed}

abbrev pub Left : Type 0
Left = Option Sizes

abbrev pub Changed : Type 0
Changed = Option (ℕ × Framed × Left)
