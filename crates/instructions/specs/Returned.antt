-- What functions hand back, by the names that src/ gives these types. Assumes nothing.
use Rattle.std.specs.Prelude.{Option}
use Rattle.reading.specs.declared.Cursor.{Cursor}

abbrev pub Way : Type 0
Way = Option Cursor
