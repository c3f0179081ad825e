-- Rules R9.1 to R9.4 of docs/RULES.md.
-- Writing into a lent output. After a write the output holds the payload first and its other bytes unchanged; the answer is the length. A refusal changes nothing. Assumes nothing.
use Rattle.std.specs.Prelude.{ℕ, cond, List, ◌++◌, ◌≡◌, leb, length, drop, Ok, Err}
use Rattle.format.specs.Refusals.{number_of}
use Rattle.format.specs.Reading.{Judged, accepted, refused, judged_then, map_judged}
use Rattle.format.specs.declared.Reason.TheVariants.{OutputTooShort}
use Rattle.format.specs.Returned.{Written}

-- what is written into an output of a length; refusal 13 comes last, and gives the needed length
unfoldable pub fitting : ℕ → Judged (List ℕ) → Judged (List ℕ)
fitting room wanted = judged_then wanted (λ bs. cond (leb (length bs) room) (accepted bs) (refused (number_of OutputTooShort) (length bs)))

unfoldable pub write_answer : ℕ → Judged (List ℕ) → Judged ℕ
write_answer room wanted = map_judged length (fitting room wanted)

abbrev pub over : Judged (List ℕ) → List ℕ → List ℕ
over (accepted bs) old = bs ++ drop (length bs) old
over (refused n at) old = old

unfoldable pub output_after : Judged (List ℕ) → List ℕ → List ℕ
output_after wanted old = over (fitting (length old) wanted) old

-- What the answer to a write says: a length, or a refusal's number and offset
abbrev pub written_as : Written → Judged ℕ
written_as (Ok n) = accepted n
written_as (Err r) = refused (number_of r.reason) r.offset.0

-- the answer, and the whole end state of the output
pub record Writes (wanted : Judged (List ℕ)) (old new : List ℕ) (r : Written) : Type 0 where
  pub says : written_as r ≡ write_answer (length old) wanted
  pub leaves : new ≡ output_after wanted old
