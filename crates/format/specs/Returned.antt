-- What functions hand back, by the names that src/ gives these types. Assumes nothing.
use Rattle.std.specs.Prelude.{ℕ, Result, Option}
use Rattle.format.specs.declared.Refusal.{Refusal}
use Rattle.format.specs.declared.Place.{Place}
use Rattle.format.specs.declared.Whose.{Whose}
use Rattle.format.specs.declared.Hint.{Hint}
use Rattle.format.specs.declared.JoinRefusal.{JoinRefusal}

abbrev pub Answer : Type 0
Answer = Result (Option Place) Refusal

abbrev pub PairAnswer : Type 0
PairAnswer = Result (Option (Whose × Place)) (Whose × Refusal)

abbrev pub Verdict : Type 0
Verdict = Result (Unit {0}) Refusal

abbrev pub HintAnswer : Type 0
HintAnswer = Result (Option Hint) Refusal

abbrev pub Written : Type 0
Written = Result ℕ Refusal

abbrev pub JoinWritten : Type 0
JoinWritten = Result ℕ JoinRefusal
