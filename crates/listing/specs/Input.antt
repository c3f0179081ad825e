-- What was read of the input, if it could be read. Assumes nothing.
use Rattle.std.specs.Prelude.{ℕ, ◌≤◌, Result, Ok, Err}

-- it lies in the room that it was given
abbrev pub ReadIn : {E : Type 0} → ℕ → Result ℕ E → Type 0
ReadIn room (Ok n) = n ≤ room
ReadIn room (Err e) = Unit {0}
