-- What functions hand back, by the names that src/ gives these types. Assumes nothing.
use Rattle.std.specs.Prelude.{Option}
use Rattle.stream.specs.declared.known.Known.{Known}

abbrev pub Lead : Type 0
Lead = Option Known
