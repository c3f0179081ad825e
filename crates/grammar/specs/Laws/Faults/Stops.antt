-- A reader stops exactly where the bytes have a fault, with its number and at its place. Readings that stopped are taken apart here.
use Rattle.std.specs.Prelude.{ℕ, ◌+◌, Bool, true, false, List, ◌++◌, ◌≡◌, refl, length}
use Rattle.std.proofs.Common.{sym, ap, arith, length-append}
use Rattle.format.specs.Bytes.{Bytes}
use Rattle.format.specs.Refusals.{number_of}
use Rattle.format.specs.Reading.{Outcome, got, stop, Reader, and_then, return, ◌>>◌, checked}
use Rattle.format.specs.Parts.{go_on}
use Rattle.format.specs.Laws.Outcomes.{not_got}
use Rattle.format.proofs.Laws.Passing.{Passes, Reaches, reach}
use Rattle.format.specs.declared.Reason.{Reason}
use Rattle.grammar.specs.Numbers.{Grammar}
use Rattle.grammar.specs.Faults.Numbers.{Faults}
use Rattle.grammar.specs.Laws.Exact.{Exact, left_bytes}

module _ {A : Type 0} where
  pub stop_number : {n m at at' : ℕ} → ◌≡◌ {A = Outcome A} (stop n at) (stop m at') → n ≡ m
  stop_number e = cc

  pub stop_place : {n m at at' : ℕ} → ◌≡◌ {A = Outcome A} (stop n at) (stop m at') → at ≡ at'
  stop_place e = cc

pub stop_again : {A B : Type 0} {n m at at' : ℕ} → ◌≡◌ {A = Outcome A} (stop n at) (stop m at') → ◌≡◌ {A = Outcome B} (stop n at) (stop m at')
stop_again e = cc

-- the first step stopped, or what comes after it
pub stops_in {ℓ} : {A B : Type 0} {C : Type ℓ} (r : Outcome A) (f : A → Reader B) {n k : ℕ} → and_then r f ≡ stop n k → (r ≡ stop n k → C) → ((a : A) (o₁ : ℕ) (r₁ : List ℕ) → r ≡ got a o₁ r₁ → f a o₁ r₁ ≡ stop n k → C) → C
stops_in (got a o bs) f e first then = then a o bs refl e
stops_in (stop n at) f e first then = first (stop_again e)

-- what only returns does not stop
pub stops_first {ℓ} : {A B : Type 0} {C : Type ℓ} (r : Outcome A) (g : A → B) {n k : ℕ} → and_then r (λ v. return (g v)) ≡ stop n k → (r ≡ stop n k → C) → C
stops_first (got a o bs) g e first = absurd (not_got (sym e))
stops_first (stop n at) g e first = first (stop_again e)

-- inside a part
pub stops_inside {ℓ} : {A : Type 0} {C : Type ℓ} (r : Outcome A) (o : ℕ) (bs : List ℕ) {n k : ℕ} → go_on r o bs ≡ stop n k → (r ≡ stop n k → C) → C
stops_inside (got a o₁ r₁) o bs e next = absurd (not_got (sym e))
stops_inside (stop n at) o bs e next = next e

-- a check refused, or what comes after it stopped
pub stops_at_check {ℓ} : {B : Type 0} {C : Type ℓ} (b : Bool) (why : Reason) (at : ℕ) (f : Reader B) (o : ℕ) (bs : List ℕ) {n k : ℕ} → (checked b why at >> f) o bs ≡ stop n k → (b ≡ false → number_of why ≡ n → at ≡ k → C) → (b ≡ true → f o bs ≡ stop n k → C) → C
stops_at_check true why at f o bs e broken kept = kept refl e
stops_at_check false why at f o bs e broken kept = broken refl (stop_number e) (stop_place e)

-- a fault at a place that is counted from where the bytes stand
pub record Found (F : Faults) (bs : List ℕ) (o n k : ℕ) : Type 0 where
  pub place : ℕ
  pub is : k ≡ o + place
  pub fault : F bs n place

module _ {A : Type 0} where
  pub record Stops (read : Reader A) (F : Faults) : Type 0 where
    pub found : (o : ℕ) (bs : List ℕ) {n k : ℕ} → Bytes bs → read o bs ≡ stop n k → Found F bs o n k
    pub stops : {bs : List ℕ} {n at : ℕ} → F bs n at → (o : ℕ) → read o bs ≡ stop n (o + at)

-- what was read, and that the reading goes on right behind it
pub record Went {B : Type 0} (grammar : Grammar B) (w : B) (bs : List ℕ) (o o₁ : ℕ) (r₁ : List ℕ) : Type 0 where
  pub front : List ℕ
  pub is : bs ≡ front ++ r₁
  pub means : grammar front w
  pub next : o₁ ≡ o + length front
  pub left : Bytes r₁

-- a reader by a grammar and its faults: it reads exactly what has a meaning, goes on right behind it, and stops exactly at a fault
module _ {A B : Type 0} where
  pub record Reads (read : Reader A) (plain : A → B) (grammar : Grammar B) (F : Faults) : Type 0 where
    pub exact : Exact read plain grammar
    pub passes : (end : ℕ) → Passes (Reaches end) read
    pub faults : Stops read F

  pub record Goes (read : Reader A) (plain : A → B) (front : List ℕ) (w : B) (o : ℕ) (rest : List ℕ) : Type 0 where
    pub value : A
    pub reads : read o (front ++ rest) ≡ got value (o + length front) rest
    pub same : plain value ≡ w

  module _ {read : Reader A} {plain : A → B} {grammar : Grammar B} {F : Faults} (r : Reads read plain grammar F) where
    pub went : (o : ℕ) (bs : List ℕ) {v : A} {o₁ : ℕ} {r₁ : List ℕ} → Bytes bs → read o bs ≡ got v o₁ r₁ → Went grammar (plain v) bs o o₁ r₁
    went o bs {r₁ = r₁} h e =
        let s = r.exact.sound o bs h e in
        record { front = s.front; is = s.is; means = s.means; next = omega (arith, reach r.passes o bs e, ap length s.is, length-append s.front r₁); left = left_bytes s h }

    pub goes : {front : List ℕ} {w : B} → grammar front w → (o : ℕ) (rest : List ℕ) → Goes read plain front w o rest
    goes {front} g o rest =
        let a = r.exact.complete g o rest in
        let next : a.next ≡ o + length front = omega (arith, reach r.passes o (front ++ rest) a.reads, length-append front rest) in
        record { value = a.value; reads = rw next at a.reads; same = a.same }
