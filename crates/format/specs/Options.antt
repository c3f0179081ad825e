-- What may be missing. Assumes nothing.
use Rattle.std.specs.Prelude.{Bool, true, false}
use Rattle.std.proofs.Math.Option.{Option, none, some}

-- what follows from what is there, none without it
abbrev pub some_then : {A B : Type 0} → Option A → (A → Option B) → Option B
some_then none f = none
some_then (some v) f = f v

abbrev pub map_some : {A B : Type 0} → (A → B) → Option A → Option B
map_some f none = none
map_some f (some v) = some (f v)

-- the first of two that is there
abbrev pub or_else : {A : Type 0} → Option A → Option A → Option A
or_else none y = y
or_else (some v) y = some v

abbrev pub is_some : {A : Type 0} → Option A → Bool
is_some none = false
is_some (some v) = true
