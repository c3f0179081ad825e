-- Rule R15.2 of docs/RULES.md.
-- K6. The hints of an accepted payload in section order, each number with its place: refusal 19 points to the function index, 20 and 21 to the hint's offset number. Assumes nothing.
use Rattle.std.specs.Prelude.{ℕ, List}
use Rattle.format.specs.Reading.{◌>>=◌, Reader, return, here}
use Rattle.format.specs.Numbers.{number}
use Rattle.format.specs.Parts.{Part, sized}
use Rattle.format.specs.Older.{vector}

-- a row of a list: its number, where this stands, and its value
pub record Placed (A : Type 0) : Type 0 where
  pub at : ℕ
  pub number : ℕ
  pub value : A

unfoldable pub placed_row : {A : Type 0} → Reader A → Reader (Placed A)
placed_row read = do
  at ← here
  n ← number
  v ← read
  return (record { at = at; number = n; value = v })

unfoldable pub placed_rows : {A : Type 0} → Reader A → Reader (List (Placed A))
placed_rows read = vector (placed_row read)

-- a function's hints by their offsets, and the functions with their hints
abbrev pub Hints : Type 0
Hints = List (Placed Part)

unfoldable pub function_hints : Reader (Placed Hints)
function_hints = placed_row (placed_rows sized)

unfoldable pub all_hints : Reader (List (Placed Hints))
all_hints = vector function_hints
