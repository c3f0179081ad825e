-- Outcomes and judgements, taken apart: what a reading that went on had read.
use Rattle.std.specs.Prelude.{ℕ, Bool, true, false, ◌&&◌, List, [], ◌∷◌, ◌↔◌, ◌≡◌, refl}
use Rattle.std.proofs.Common.{sym, ap, ◌∙◌, arith}
use Rattle.format.specs.Reading.{Outcome, got, stop, Reader, and_then, return, ◌>>◌, checked, at_end, Judged, accepted, refused, judge, judged_then, map_judged}
use Rattle.format.specs.Parts.{go_on}
use Rattle.format.specs.declared.Reason.{Reason}

module _ {A : Type 0} where
  pub not_got : {n at o : ℕ} {v : A} {bs : List ℕ} → stop n at ≡ got v o bs → ⊥
  not_got e = let z : ◌≡◌ {A = ℕ} 0 1 = cc in omega arith

  pub got_value : {v w : A} {o o' : ℕ} {bs bs' : List ℕ} → got v o bs ≡ got w o' bs' → v ≡ w
  got_value e = cc

  pub got_next : {v w : A} {o o' : ℕ} {bs bs' : List ℕ} → got v o bs ≡ got w o' bs' → o ≡ o'
  got_next e = cc

  pub got_rest : {v w : A} {o o' : ℕ} {bs bs' : List ℕ} → got v o bs ≡ got w o' bs' → bs ≡ bs'
  got_rest e = cc

  pub not_accepted : {n at : ℕ} {v : A} → refused n at ≡ accepted v → ⊥
  not_accepted e = let z : ◌≡◌ {A = ℕ} 0 1 = cc in omega arith

  pub accepted_is : {v w : A} → accepted v ≡ accepted w → v ≡ w
  accepted_is e = cc

-- by the value of a test
pub by_test {ℓ} : {C : Type ℓ} (b : Bool) → (b ≡ true → C) → (b ≡ false → C) → C
by_test true f g = f refl
by_test false f g = g refl

pub false_true {ℓ} : {C : Type ℓ} → false ≡ true → C
false_true e = absurd (let z : ◌≡◌ {A = ℕ} 0 1 = cc in omega arith)

-- two tests that both passed
pub on_both {ℓ} : {C : Type ℓ} (a b : Bool) → (a && b) ≡ true → (a ≡ true → b ≡ true → C) → C
on_both true b e k = k refl e
on_both false b e k = false_true e

pub and_true : (b : Bool) → (b && true) ≡ b
and_true true = refl
and_true false = refl

pub and_false : (b : Bool) → (b && false) ≡ false
and_false true = refl
and_false false = refl

-- by what a reading came to
pub by_outcome {ℓ} : {A : Type 0} {C : Type ℓ} (r : Outcome A) → ((a : A) (o : ℕ) (bs : List ℕ) → r ≡ got a o bs → C) → ((n at : ℕ) → r ≡ stop n at → C) → C
by_outcome (got a o bs) f g = f a o bs refl
by_outcome (stop n at) f g = g n at refl

-- a reading that went on: what its first step got, and that the rest gave the result
pub in_turn {ℓ} : {A B : Type 0} {C : Type ℓ} (r : Outcome A) (f : A → Reader B) {v : B} {o : ℕ} {bs : List ℕ} → and_then r f ≡ got v o bs → ((a : A) (o₁ : ℕ) (r₁ : List ℕ) → r ≡ got a o₁ r₁ → f a o₁ r₁ ≡ got v o bs → C) → C
in_turn (got a o bs) f e k = k a o bs refl e
in_turn (stop n at) f e k = absurd (not_got e)

-- a check that was passed
pub passed {ℓ} : {B : Type 0} {C : Type ℓ} (b : Bool) (why : Reason) (at : ℕ) (f : Reader B) (o : ℕ) (bs : List ℕ) {v : B} {o' : ℕ} {rest : List ℕ} → (checked b why at >> f) o bs ≡ got v o' rest → (b ≡ true → f o bs ≡ got v o' rest → C) → C
passed true why at f o bs e k = k refl e
passed false why at f o bs e k = absurd (not_got e)

-- nothing was left over
pub ended {ℓ} : {A : Type 0} {C : Type ℓ} (a : A) (o : ℕ) (bs : List ℕ) {v : A} {o' : ℕ} {rest : List ℕ} → at_end a o bs ≡ got v o' rest → (bs ≡ [] → a ≡ v → C) → C
ended a o [] e k = k refl (got_value e)
ended a o (b ∷ bs) e k = absurd (not_got e)

-- what was read inside a part
pub in_part {ℓ} : {A : Type 0} {C : Type ℓ} (r : Outcome A) (o : ℕ) (bs : List ℕ) {v : A} {o' : ℕ} {rest : List ℕ} → go_on r o bs ≡ got v o' rest → ((o₁ : ℕ) (r₁ : List ℕ) → r ≡ got v o₁ r₁ → o ≡ o' → bs ≡ rest → C) → C
in_part (got a o₁ r₁) o bs e k = k o₁ r₁ (got_is (got_value e)) (got_next e) (got_rest e)
  where
    got_is : {A : Type 0} {a v : A} {o₁ : ℕ} {r₁ : List ℕ} → a ≡ v → got a o₁ r₁ ≡ got v o₁ r₁
    got_is q = cc
in_part (stop n at) o bs e k = absurd (not_got e)

-- what was accepted was read
pub judged {ℓ} : {A : Type 0} {C : Type ℓ} (r : Outcome A) {v : A} → judge r ≡ accepted v → ((o : ℕ) (rest : List ℕ) → r ≡ got v o rest → C) → C
judged (got a o rest) e k = k o rest (let q = accepted_is e in cc)
judged (stop n at) e k = absurd (not_accepted e)

pub mapped {ℓ} : {A B : Type 0} {C : Type ℓ} (f : A → B) (j : Judged A) {w : B} → map_judged f j ≡ accepted w → ((v : A) → j ≡ accepted v → f v ≡ w → C) → C
mapped f (accepted v) e k = k v refl (accepted_is e)
mapped f (refused n at) e k = absurd (not_accepted e)

pub followed {ℓ} : {A B : Type 0} {C : Type ℓ} (j : Judged A) (f : A → Judged B) {w : B} → judged_then j f ≡ accepted w → ((v : A) → j ≡ accepted v → f v ≡ accepted w → C) → C
followed (accepted v) f e k = k v refl e
followed (refused n at) f e k = absurd (not_accepted e)

-- what is known to be accepted with one value is accepted with another exactly where the two are equal
pub accepted_exactly : {A : Type 0} {j : Judged A} {v w : A} → j ≡ accepted v → (j ≡ accepted w) ↔ (v ≡ w)
accepted_exactly h = (λ e. accepted_is (sym h ∙ e), λ e. h ∙ ap accepted e)

-- what follows from a judgement is refused exactly as the judgement is
refused_again : {A B : Type 0} {n m at at' : ℕ} → ◌≡◌ {A = Judged A} (refused n at) (refused m at') → ◌≡◌ {A = Judged B} (refused n at) (refused m at')
refused_again e = cc

pub refused_exactly : {A B : Type 0} (f : A → B) (j : Judged A) {n at : ℕ} → (map_judged f j ≡ refused n at) ↔ (j ≡ refused n at)
refused_exactly f (accepted v) = (λ e. absurd (not_accepted (sym e)), λ e. absurd (not_accepted (sym e)))
refused_exactly f (refused n at) = (refused_again, refused_again)

-- and so is what always goes on from it
pub then_refused : {A B : Type 0} (f : A → Judged B) (j : Judged A) {n at : ℕ} → ((v : A) → j ≡ accepted v → (w : B) × (f v ≡ accepted w)) → (judged_then j f ≡ refused n at) ↔ (j ≡ refused n at)
then_refused f (accepted v) h = (λ e. absurd (not_accepted (sym e ∙ (h v refl).1)), λ e. absurd (not_accepted (sym e)))
then_refused f (refused n at) h = (refused_again, refused_again)

-- a refusal is the same of whatever was read
pub stop_refused : {A B : Type 0} {n n' at at' : ℕ} → ◌≡◌ {A = Outcome A} (stop n at) (stop n' at') → ◌≡◌ {A = Judged B} (refused n at) (refused n' at')
stop_refused e = cc

-- what must fill what it is given, asked: by what was read and answered
pub filling_stops : {A B : Type 0} (ask : A → B) (r : Outcome A) {n at : ℕ} → and_then r (λ v. return (ask v)) ≡ stop n at → map_judged ask (judge (and_then r at_end)) ≡ refused n at
filling_stops ask (got v o bs) e = absurd (not_got (sym e))
filling_stops ask (stop n at) e = stop_refused e

pub filling_fills : {A B : Type 0} (ask : A → B) (r : Outcome A) {x : B} {o : ℕ} → and_then r (λ v. return (ask v)) ≡ got x o [] → map_judged ask (judge (and_then r at_end)) ≡ accepted x
filling_fills ask (got v o bs) e = rw (got_rest e) (ap accepted (got_value e))
filling_fills ask (stop n at) e = absurd (not_got e)

pub filling_leaves : {A B : Type 0} (ask : A → B) (r : Outcome A) {x : B} {o b : ℕ} {rest : List ℕ} → and_then r (λ v. return (ask v)) ≡ got x o (b ∷ rest) → map_judged ask (judge (and_then r at_end)) ≡ refused 10 o
filling_leaves ask (got v o bs) e = rw (got_rest e, got_next e)
filling_leaves ask (stop n at) e = absurd (not_got e)
