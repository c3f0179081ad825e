-- Rules R1.2, R1.3, R1.14, R5.1 and R19.6 of docs/RULES.md.
-- Reading is left to right, and each check is made once the bytes it needs are read. A reader is given the offset where it stands and the bytes that the innermost part has left: nothing else can be read. Assumes nothing.
use Rattle.std.specs.Prelude.{ℕ, Bool, true, false, List, [], ◌∷◌, ◌≡◌}
use Rattle.format.specs.Refusals.{number_of}
use Rattle.format.specs.declared.Reason.{Reason}
use Rattle.format.specs.declared.Reason.TheVariants.{LeftOver}

-- a value, the offset after it and the bytes left there; or a refusal's number and offset
pub data Outcome (A : Type 0) : Type 0 where
  got : A → ℕ → List ℕ → Outcome A
  stop : ℕ → ℕ → Outcome A

abbrev pub Reader : Type 0 → Type 0
Reader A = ℕ → List ℕ → Outcome A

-- One after the other: a refusal ends the reading
abbrev pub and_then : {A B : Type 0} → Outcome A → (A → Reader B) → Outcome B
and_then (got v o bs) f = f v o bs
and_then (stop n at) f = stop n at

infixl 20 ◌>>=◌
infixl 20 ◌>>◌
abbrev pub ◌>>=◌ : {A B : Type 0} → Reader A → (A → Reader B) → Reader B
◌>>=◌ first next = λ o bs. and_then (first o bs) next

abbrev pub ◌>>◌ : {A B : Type 0} → Reader A → Reader B → Reader B
◌>>◌ first next = λ o bs. and_then (first o bs) (λ _. next)

abbrev pub return : {A : Type 0} → A → Reader A
return v = λ o bs. got v o bs

-- where the reading stands
abbrev pub here : Reader ℕ
here = λ o bs. got o o bs

-- A refusal for a reason, at an offset; and a check that is passed or refuses
abbrev pub refuse : {A : Type 0} → Reason → ℕ → Reader A
refuse why at = λ o bs. stop (number_of why) at

abbrev pub checked : Bool → Reason → ℕ → Reader (Unit {0})
checked true why at = return tt
checked false why at = refuse why at

module _ {A : Type 0} where
  -- refusal 10 gives the first of the bytes left over
  abbrev pub at_end : A → Reader A
  at_end v o [] = got v o []
  at_end v o (b ∷ bs) = refuse LeftOver o o (b ∷ bs)

  -- what is read must fill what it is given exactly
  abbrev pub filling : Reader A → Reader A
  filling read = read >>= at_end

-- A judgement: what was read is accepted, or a refusal's number and offset
pub data Judged (A : Type 0) : Type 0 where
  accepted : A → Judged A
  refused : ℕ → ℕ → Judged A

abbrev pub judge : {A : Type 0} → Outcome A → Judged A
judge (got v o bs) = accepted v
judge (stop n at) = refused n at

-- what follows from what was accepted
abbrev pub judged_then : {A B : Type 0} → Judged A → (A → Judged B) → Judged B
judged_then (accepted v) f = f v
judged_then (refused n at) f = refused n at

abbrev pub map_judged : {A B : Type 0} → (A → B) → Judged A → Judged B
map_judged f (accepted v) = accepted (f v)
map_judged f (refused n at) = refused n at

-- accepted or refused, whatever was read
abbrev pub verdict : {A : Type 0} → Judged A → Judged (Unit {0})
verdict j = map_judged (λ _. tt) j

-- what a judgement accepts
pub record Accepted {A : Type 0} (judgement : List ℕ → Judged A) (bs : List ℕ) : Type 0 where
  pub value : A
  pub judged : judgement bs ≡ accepted value
