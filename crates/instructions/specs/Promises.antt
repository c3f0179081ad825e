-- THE PROMISES of the crate `instructions`, each by the name of its function. They stand in the `ensures` of the public functions and nowhere else: what is shown of these names is shown of the functions. A promise relates what is lent to what comes back.
use Rattle.std.specs.Prelude.{ℕ, List}
use Rattle.reading.specs.declared.Cursor.{Cursor}
use Rattle.instructions.specs.Immediates.{instruction}
use Rattle.instructions.specs.Locals.{locals}
use Rattle.instructions.specs.Ways.{Goes}
use Rattle.instructions.specs.Returned.{Way}

-- instructions
abbrev pub InstructionsStep : (c : Cursor) (s : List ℕ) → Way → Type 0
InstructionsStep c s r = Goes instruction s c r

-- instructions::locals
abbrev pub InstructionsLocals : (c : Cursor) (s : List ℕ) → Way → Type 0
InstructionsLocals c s r = Goes locals s c r
