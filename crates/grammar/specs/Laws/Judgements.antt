-- A judgement whose readings are what a grammar says: it accepts exactly what has a meaning, refuses exactly what has none, and no bytes have two meanings.
use Rattle.std.specs.Prelude.{ℕ, List, ◌↔◌, ◌≡◌, refl}
use Rattle.std.proofs.Common.{sym, ap, ◌∙◌}
use Rattle.format.specs.Bytes.{Bytes}
use Rattle.format.specs.Reading.{Judged, accepted, refused, map_judged}
use Rattle.format.specs.Laws.Outcomes.{not_accepted, accepted_is, mapped}
use Rattle.grammar.specs.Numbers.{Grammar}

by_judgement {ℓ} : {A : Type 0} {C : Type ℓ} (j : Judged A) → ((v : A) → j ≡ accepted v → C) → ((n at : ℕ) → j ≡ refused n at → C) → C
by_judgement (accepted v) f g = f v refl
by_judgement (refused n at) f g = g n at refl

-- what is read of a judgement when places are forgotten
module _ {A B : Type 0} {judgement : List ℕ → Judged A} {plain : A → B} {grammar : Grammar B}
    (sound : (p : List ℕ) (v : A) → Bytes p → judgement p ≡ accepted v → grammar p (plain v))
    (complete : (p : List ℕ) (m : B) → grammar p m → (v : A) × (judgement p ≡ accepted v) × (plain v ≡ m)) where
  meant : (p : List ℕ) (m : B) → grammar p m → map_judged plain (judgement p) ≡ accepted m
  meant p m g = let (v, e, q) = complete p m g in ap (map_judged plain) e ∙ ap accepted q

  pub means_exactly : (p : List ℕ) → Bytes p → (m : B) → (map_judged plain (judgement p) ≡ accepted m) ↔ grammar p m
  means_exactly p h m = (λ e. mapped plain (judgement p) e λ v e₁ q. rw (← q) (sound p v h e₁), meant p m)

  pub meaningless_exactly : (p : List ℕ) → Bytes p → ((n at : ℕ) × (map_judged plain (judgement p) ≡ refused n at)) ↔ ((m : B) → grammar p m → ⊥)
  meaningless_exactly p h = (
    λ r m g. not_accepted (sym r.2 ∙ meant p m g),
    λ none. by_judgement (judgement p) (λ v e. absurd (none (plain v) (sound p v h e))) (λ n at e. (n, at, ap (map_judged plain) e)),
  )

  pub means_one : (p : List ℕ) (m n : B) → grammar p m → grammar p n → m ≡ n
  means_one p m n g k = accepted_is (sym (meant p m g) ∙ meant p n k)
