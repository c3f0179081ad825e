-- What an answer at the C boundary says of the judgement that it was made of, by its fields.
use Rattle.std.specs.Prelude.{ℕ, List, ◌↔◌, ◌≡◌, refl}
use Rattle.std.proofs.Math.Option.{Option, none, some}
use Rattle.std.proofs.Common.{sym, ap, ◌∙◌, arith}
use Rattle.format.proofs.Theorems.{VeryBytes}
use Rattle.format.specs.Laws.Options.{not_some, some_is}
use Rattle.format.specs.Laws.Outcomes.{not_accepted, accepted_is}
use Rattle.format.specs.Parts.{Part}
use Rattle.format.specs.Questions.{as_place, as_told}
use Rattle.format.specs.Reading.{Judged, accepted, refused, map_judged, verdict}
use Rattle.format.specs.declared.Hint.{Hint}
use Rattle.format.specs.declared.Hint.TheVariants.{Unlikely, Likely}
use Rattle.wakemiono.specs.Boundary.{wm_found, wm_refused, wm_place, wm_count, wm_judged, wm_hint}
use Rattle.wakemiono.specs.declared.WmAnswer.{WmAnswer}
use Rattle.promises.specs.Demands.{FoundIn}

refused_alike : {A : Type 0} {n m at at' : ℕ} → wm_refused n at ≡ wm_refused m at' → ◌≡◌ {A = Judged A} (refused n at) (refused m at')
refused_alike {A} e = let c = ap (λ (a : WmAnswer). a.code) e in let o = ap (λ (a : WmAnswer). a.offset) e in λ i. refused (c i) (o i)

-- A judgement: found where it accepts, and its own refusal where it refuses
pub record Verdict {A : Type 0} (a : WmAnswer) (j : Judged A) : Type 0 where
  pub found : (a.kind ≡ 1) ↔ ((v : A) × (j ≡ accepted v))
  pub refuses : (a.kind ≡ 2) ↔ ((n at : ℕ) × (j ≡ refused n at))
  pub refusal : (n at : ℕ) → (a ≡ wm_refused n at) ↔ (j ≡ refused n at)

judgement_said : {A : Type 0} (n : ℕ) (j : Judged A) → Verdict (wm_judged n (verdict j)) j
judgement_said n (accepted v) = record {
  found = (λ _. (v, refl), λ _. refl);
  refuses = (λ e. absurd (omega (arith, e)), λ r. absurd (not_accepted (sym r.2)));
  refusal = λ m at. (λ e. absurd (omega (arith, ap (λ (a : WmAnswer). a.kind) e)), λ e. absurd (not_accepted (sym e)));
}
judgement_said n (refused m at) = record {
  found = (λ e. absurd (omega (arith, e)), λ r. absurd (not_accepted r.1));
  refuses = (λ _. (m, at, refl), λ _. refl);
  refusal = λ m at. (λ e. refused_alike e, λ e. ap (λ j. wm_judged n (verdict j)) e);
}

sum_said : {A : Type 0} (f : A → ℕ) (j : Judged A) → Verdict (wm_count (map_judged f j)) j
sum_said f (accepted v) = record {
  found = (λ _. (v, refl), λ _. refl);
  refuses = (λ e. absurd (omega (arith, e)), λ r. absurd (not_accepted (sym r.2)));
  refusal = λ m at. (λ e. absurd (omega (arith, ap (λ (a : WmAnswer). a.kind) e)), λ e. absurd (not_accepted (sym e)));
}
sum_said f (refused m at) = record {
  found = (λ e. absurd (omega (arith, e)), λ r. absurd (not_accepted r.1));
  refuses = (λ _. (m, at, refl), λ _. refl);
  refusal = λ m at. (λ e. refused_alike e, λ e. ap (λ j. wm_count (map_judged f j)) e);
}

pub judged_said : {A : Type 0} {a : WmAnswer} (n : ℕ) (j : Judged A) → a ≡ wm_judged n (verdict j) → Verdict a j
judged_said n j e = rw e (judgement_said n j)

pub count_said : {A : Type 0} {a : WmAnswer} (f : A → ℕ) (j : Judged A) → a ≡ wm_count (map_judged f j) → Verdict a j
count_said f j e = rw e (sum_said f j)

-- what a judging call finds is the whole
pub judged_whole : {a : WmAnswer} (n : ℕ) (j : Judged (Unit {0})) → a ≡ wm_judged n j → a.kind ≡ 1 → a ≡ wm_found 0 0 n
judged_whole n (accepted v) e k = e
judged_whole n (refused m at) e k = absurd (omega (arith, k, ap (λ (a : WmAnswer). a.kind) e))

pub found_said : (lent : List ℕ) (j : Judged (Option Part)) → ((y : Part) → j ≡ accepted (some y) → VeryBytes lent y) → (x : List ℕ) → FoundIn lent (wm_place (as_place j)) x ↔ (as_told j ≡ accepted (some x))
unfolding as_place as_told
found_said lent (accepted none) very x = (λ f. absurd (omega (arith, f.0)), λ e. absurd (not_some (accepted_is e)))
found_said lent (accepted (some y)) very x =
    let v = very y refl in
    (λ f. ap (λ bs. accepted (some bs)) (sym v.bytes ∙ f.2), λ e. (refl, v.inside, v.bytes ∙ some_is (accepted_is e)))
found_said lent (refused n at) very x = (λ f. absurd (omega (arith, f.0)), λ e. absurd (not_accepted e))

pub none_said : (j : Judged (Option Part)) → ((wm_place (as_place j)).kind ≡ 0) ↔ (j ≡ accepted none)
unfolding as_place
none_said (accepted none) = (λ _. refl, λ _. refl)
none_said (accepted (some y)) = (λ e. absurd (omega (arith, e)), λ e. absurd (not_some (sym (accepted_is e))))
none_said (refused n at) = (λ e. absurd (omega (arith, e)), λ e. absurd (not_accepted e))

pub refused_said : (j : Judged (Option Part)) (n at : ℕ) → (wm_place (as_place j) ≡ wm_refused n at) ↔ (j ≡ refused n at)
unfolding as_place
refused_said (accepted none) n at = (λ e. absurd (omega (arith, ap (λ (a : WmAnswer). a.kind) e)), λ e. absurd (not_accepted (sym e)))
refused_said (accepted (some y)) n at = (λ e. absurd (omega (arith, ap (λ (a : WmAnswer). a.kind) e)), λ e. absurd (not_accepted (sym e)))
refused_said (refused m o) n at = (λ e. refused_alike e, λ e. ap (λ j. wm_place (as_place j)) e)

-- A hint that was asked for: unlikely is kind 3, likely kind 4
pub unlikely_said : (j : Judged (Option Hint)) → ((wm_hint j).kind ≡ 3) ↔ (j ≡ accepted (some Unlikely))
unlikely_said (accepted none) = (λ e. absurd (omega (arith, e)), λ e. absurd (not_some (accepted_is e)))
unlikely_said (accepted (some Unlikely)) = (λ _. refl, λ _. refl)
unlikely_said (accepted (some Likely)) = (λ e. absurd (omega (arith, e)), λ e. absurd (not_alike (some_is (accepted_is e))))
  where
    not_alike : Likely ≡ Unlikely → ⊥
    not_alike e = let z : ◌≡◌ {A = ℕ} 0 1 = cc in omega arith
unlikely_said (refused n at) = (λ e. absurd (omega (arith, e)), λ e. absurd (not_accepted e))

pub likely_said : (j : Judged (Option Hint)) → ((wm_hint j).kind ≡ 4) ↔ (j ≡ accepted (some Likely))
likely_said (accepted none) = (λ e. absurd (omega (arith, e)), λ e. absurd (not_some (accepted_is e)))
likely_said (accepted (some Likely)) = (λ _. refl, λ _. refl)
likely_said (accepted (some Unlikely)) = (λ e. absurd (omega (arith, e)), λ e. absurd (not_alike (some_is (accepted_is e))))
  where
    not_alike : Unlikely ≡ Likely → ⊥
    not_alike e = let z : ◌≡◌ {A = ℕ} 0 1 = cc in omega arith
likely_said (refused n at) = (λ e. absurd (omega (arith, e)), λ e. absurd (not_accepted e))

pub no_hint_said : (j : Judged (Option Hint)) → ((wm_hint j).kind ≡ 0) ↔ (j ≡ accepted none)
no_hint_said (accepted none) = (λ _. refl, λ _. refl)
no_hint_said (accepted (some Unlikely)) = (λ e. absurd (omega (arith, e)), λ e. absurd (not_some (sym (accepted_is e))))
no_hint_said (accepted (some Likely)) = (λ e. absurd (omega (arith, e)), λ e. absurd (not_some (sym (accepted_is e))))
no_hint_said (refused n at) = (λ e. absurd (omega (arith, e)), λ e. absurd (not_accepted e))

pub hint_refused_said : (j : Judged (Option Hint)) (n at : ℕ) → (wm_hint j ≡ wm_refused n at) ↔ (j ≡ refused n at)
hint_refused_said (accepted none) n at = (λ e. absurd (omega (arith, ap (λ (a : WmAnswer). a.kind) e)), λ e. absurd (not_accepted (sym e)))
hint_refused_said (accepted (some Unlikely)) n at = (λ e. absurd (omega (arith, ap (λ (a : WmAnswer). a.kind) e)), λ e. absurd (not_accepted (sym e)))
hint_refused_said (accepted (some Likely)) n at = (λ e. absurd (omega (arith, ap (λ (a : WmAnswer). a.kind) e)), λ e. absurd (not_accepted (sym e)))
hint_refused_said (refused m o) n at = (λ e. refused_alike e, λ e. ap (λ j. wm_hint j) e)
