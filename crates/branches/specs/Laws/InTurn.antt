-- Judged one after the other: a list is accepted exactly where each element is fine, and refused exactly as the first that is not.
use Rattle.std.specs.Prelude.{ℕ, List, [], ◌∷◌, ◌↔◌, ◌≡◌, refl}
use Rattle.std.proofs.Common.{sym, ◌∙◌}
use Rattle.format.specs.Reading.{Judged, accepted, refused, judged_then}
use Rattle.format.specs.Laws.Outcomes.{not_accepted, followed}
use Rattle.grammar.specs.Modules.{Among, here, further}
use Rattle.branches.specs.Rule.{FirstRefused, this_one, a_later_one}

pub by_judged {ℓ} : {A : Type 0} {C : Type ℓ} (j : Judged A) → ((v : A) → j ≡ accepted v → C) → ((n at : ℕ) → j ≡ refused n at → C) → C
by_judged (accepted v) f g = f v refl
by_judged (refused n at) f g = g n at refl

-- a refusal is the same of whatever was judged
pub same_refusal : {A B : Type 0} {n m at o : ℕ} → ◌≡◌ {A = Judged A} (refused n at) (refused m o) → ◌≡◌ {A = Judged B} (refused n at) (refused m o)
same_refusal e = cc

none_among : {A : Type 0} {x : A} → Among x [] → ⊥
none_among = elim [ ]

-- the one is fine, or refused
pub record Decides {A : Type 0} (one : A → Judged (Unit {0})) (Fine : A → Type 0) (Refused : A → (number offset : ℕ) → Type 0) : Type 0 where
  pub fine : (x : A) → (one x ≡ accepted tt) ↔ Fine x
  pub fault : (x : A) (number offset : ℕ) → (one x ≡ refused number offset) ↔ Refused x number offset

module _ {A : Type 0} (each : List A → Judged (Unit {0})) {one : A → Judged (Unit {0})} {Fine : A → Type 0} {Refused : A → (number offset : ℕ) → Type 0} (d : Decides one Fine Refused) (ends : each [] ≡ accepted tt) (goes_on : (x : A) (xs : List A) → each (x ∷ xs) ≡ judged_then (one x) (λ _. each xs)) where
  all_sound : (xs : List A) → each xs ≡ accepted tt → (y : A) → Among y xs → Fine y
  all_sound [] e y i = absurd (none_among i)
  all_sound (x ∷ xs) e y here = followed (one x) (λ _. each xs) (sym (goes_on x xs) ∙ e) λ v e₁ e₂. (d.fine x).0 e₁
  all_sound (x ∷ xs) e y (further i) = followed (one x) (λ _. each xs) (sym (goes_on x xs) ∙ e) λ v e₁ e₂. all_sound xs e₂ y i

  all_complete : (xs : List A) → ((y : A) → Among y xs → Fine y) → each xs ≡ accepted tt
  all_complete [] all = ends
  all_complete (x ∷ xs) all = goes_on x xs ∙ rw ((d.fine x).1 (all x here)) (all_complete xs (λ y i. all y (further i)))

  by_one : (x : A) (xs : List A) {n at : ℕ} (j : Judged (Unit {0})) → one x ≡ j → (each xs ≡ refused n at → FirstRefused Fine Refused xs n at) → judged_then j (λ _. each xs) ≡ refused n at → FirstRefused Fine Refused (x ∷ xs) n at
  by_one x xs (accepted u) is more e = a_later_one ((d.fine x).0 is) (more e)
  by_one x xs {n} {at} (refused m o) is more e = this_one ((d.fault x n at).0 (is ∙ e))

  first_sound : (xs : List A) {n at : ℕ} → each xs ≡ refused n at → FirstRefused Fine Refused xs n at
  first_sound [] e = absurd (not_accepted (sym e ∙ ends))
  first_sound (x ∷ xs) e = by_one x xs (one x) refl (first_sound xs) (sym (goes_on x xs) ∙ e)

  first_complete : {xs : List A} {n at : ℕ} → FirstRefused Fine Refused xs n at → each xs ≡ refused n at
  first_complete (this_one {x = x} {xs = xs} {number = n} {offset = at} r) = goes_on x xs ∙ rw ((d.fault x n at).1 r)
  first_complete (a_later_one {x = x} {xs = xs} f r) = goes_on x xs ∙ rw ((d.fine x).1 f) (first_complete r)

  pub decides_each : Decides each (λ xs. (y : A) → Among y xs → Fine y) (λ xs. FirstRefused Fine Refused xs)
  decides_each = record { fine = λ xs. (all_sound xs, all_complete xs); fault = λ xs n at. (first_sound xs, first_complete) }
