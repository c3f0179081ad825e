-- K3. Two judgements taken together: refused exactly as the first of them that is, and else what both were accepted as; and what the pair answers, taken apart.
use Rattle.std.specs.Prelude.{ℕ, ◌↔◌, ◌≡◌, refl}
use Rattle.std.proofs.Math.Option.{Option, none, some}
use Rattle.std.proofs.Common.{sym, ap, arith}
use Rattle.format.specs.Reading.{Judged, accepted, refused}
use Rattle.format.specs.Options.{map_some, or_else}
use Rattle.format.specs.Parts.{Part}
use Rattle.format.specs.Pairs.{Paired, agreed, refused_by, both_judged, Supplied, first_of}
use Rattle.format.specs.Laws.Outcomes.{not_accepted}
use Rattle.format.specs.Laws.Options.{not_some, some_is}
use Rattle.format.specs.declared.Whose.{Whose}
use Rattle.format.specs.declared.Whose.TheVariants.{Separate, Own}

-- what a pair came to tells it apart
pub agreed_is : {A : Type 0} {v w : A} → agreed v ≡ agreed w → v ≡ w
agreed_is e = cc

pub not_agreed : {A : Type 0} {x : Whose} {n at : ℕ} {v : A} → refused_by x n at ≡ agreed v → ⊥
not_agreed e = let z : ◌≡◌ {A = ℕ} 0 1 = cc in omega arith

not_own : {A : Type 0} {n m at at' : ℕ} → ◌≡◌ {A = Paired A} (refused_by Separate n at) (refused_by Own m at') → ⊥
not_own e = let z : ◌≡◌ {A = ℕ} 0 1 = cc in omega arith

by_as : {A B : Type 0} {x : Whose} {n m at at' : ℕ} → ◌≡◌ {A = Paired A} (refused_by x n at) (refused_by x m at') → ◌≡◌ {A = Judged B} (refused n at) (refused m at')
by_as e = cc

as_by : {A B : Type 0} (x : Whose) {n m at at' : ℕ} → ◌≡◌ {A = Judged A} (refused n at) (refused m at') → ◌≡◌ {A = Paired B} (refused_by x n at) (refused_by x m at')
as_by x e = cc

own_not : Own ≡ Separate → ⊥
own_not e = let z : ◌≡◌ {A = ℕ} 0 1 = cc in omega arith

module _ {A B C : Type 0} (f : A → B → C) where
  -- the separate one is judged first
  pub separate_exactly : (j : Judged A) (k : Judged B) {n at : ℕ} → (both_judged f j k ≡ refused_by Separate n at) ↔ (j ≡ refused n at)
  separate_exactly (refused n at) k = (by_as, as_by Separate)
  separate_exactly (accepted v) (refused m at) = (λ e. absurd (not_own (sym e)), λ e. absurd (not_accepted (sym e)))
  separate_exactly (accepted v) (accepted w) = (λ e. absurd (not_agreed (sym e)), λ e. absurd (not_accepted (sym e)))

  -- then the own one
  pub own_exactly : (j : Judged A) (k : Judged B) {n at : ℕ} → (both_judged f j k ≡ refused_by Own n at) ↔ (((v : A) × (j ≡ accepted v)) × (k ≡ refused n at))
  own_exactly (refused n at) k = (λ e. absurd (not_own e), λ e. absurd (not_accepted e.0.1))
  own_exactly (accepted v) (refused m at) = (λ e. ((v, refl), by_as e), λ e. as_by Own e.1)
  own_exactly (accepted v) (accepted w) = (λ e. absurd (not_agreed (sym e)), λ e. absurd (not_accepted (sym e.1)))

  -- and what is agreed is made of what both were accepted as
  pub on_agreed {ℓ} : {D : Type ℓ} (j : Judged A) (k : Judged B) {x : C} → both_judged f j k ≡ agreed x → ((v : A) (w : B) → j ≡ accepted v → k ≡ accepted w → f v w ≡ x → D) → D
  on_agreed (refused n at) k e go = absurd (not_agreed e)
  on_agreed (accepted v) (refused m at) e go = absurd (not_agreed e)
  on_agreed (accepted v) (accepted w) e go = go v w refl refl (agreed_is e)

  pub agreed_as : {j : Judged A} {k : Judged B} {v : A} {w : B} → j ≡ accepted v → k ≡ accepted w → both_judged f j k ≡ agreed (f v w)
  agreed_as p q = rw (p, q)

-- the first of two that is there, and whose it is
module _ {A : Type 0} where
  pub first_separate : (x y : Option A) {v : A} → (first_of x y ≡ some (record { whose = Separate; value = v })) ↔ (x ≡ some v)
  first_separate none none = (λ e. absurd (not_some e), λ e. absurd (not_some e))
  first_separate none (some w) = (λ e. absurd (own_not (ap (λ s. s.whose) (some_is e))), λ e. absurd (not_some e))
  first_separate (some v) y = (λ e. ap some (ap (λ s. s.value) (some_is e)), λ e. ap (λ x. some (record { whose = Separate; value = x })) (some_is e))

  pub first_own : (x y : Option A) {v : A} → (first_of x y ≡ some (record { whose = Own; value = v })) ↔ ((x ≡ none) × (y ≡ some v))
  first_own none none = (λ e. absurd (not_some e), λ e. absurd (not_some e.1))
  first_own none (some w) = (λ e. (refl, ap some (ap (λ s. s.value) (some_is e))), λ e. ap (λ x. some (record { whose = Own; value = x })) (some_is e.1))
  first_own (some v) y = (λ e. absurd (own_not (sym (ap (λ s. s.whose) (some_is e)))), λ e. absurd (not_some (sym e.0)))

  pub first_none : (x y : Option A) → (first_of x y ≡ none) ↔ ((x ≡ none) × (y ≡ none))
  first_none none none = (λ e. (refl, refl), λ e. refl)
  first_none none (some w) = (λ e. absurd (not_some (sym e)), λ e. absurd (not_some (sym e.1)))
  first_none (some v) y = (λ e. absurd (not_some (sym e)), λ e. absurd (not_some (sym e.0)))

  pub by_supplier {ℓ} : {C : Type ℓ} (x y : Option A) {s : Supplied A} → first_of x y ≡ some s → (x ≡ some s.value → s.whose ≡ Separate → C) → (y ≡ some s.value → s.whose ≡ Own → C) → C
  by_supplier none none e f g = absurd (not_some e)
  by_supplier none (some w) e f g = g (ap some (ap (λ s. s.value) (some_is e))) (sym (ap (λ s. s.whose) (some_is e)))
  by_supplier (some v) y e f g = f (ap some (ap (λ s. s.value) (some_is e))) (sym (ap (λ s. s.whose) (some_is e)))

-- without whose it is
pub first_told : (x y : Option Part) → map_some (λ s. s.value.bytes) (first_of x y) ≡ or_else (map_some (λ p. p.bytes) x) (map_some (λ p. p.bytes) y)
first_told none none = refl
first_told none (some w) = refl
first_told (some v) y = refl
