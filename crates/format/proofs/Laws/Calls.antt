-- The results of calls, told by what they mean.
use Rattle.std.specs.Prelude.{ℕ, List, ◌↔◌, ◌≡◌, refl, Ok, Err, Some, None}
use Rattle.std.proofs.Math.Option.{Option, none, some}
use Rattle.std.proofs.Math.Path.{sym, ap}
use Rattle.std.proofs.Common.{◌∙◌}
use Rattle.format.specs.Refusals.{number_of}
use Rattle.format.specs.Reading.{Judged, accepted, refused}
use Rattle.format.specs.Parts.{Part, place_of}
use Rattle.format.specs.Questions.{as_place, as_bytes, as_told, answered}
use Rattle.format.specs.Metadata.{hint_answered}
use Rattle.format.specs.Laws.Outcomes.{not_accepted, accepted_is}
use Rattle.format.specs.Laws.Options.{not_some, some_is}
use Rattle.format.proofs.Laws.Answers.{same_answer, same_hint_answer, place_none, place_found, place_refused}
use Rattle.format.specs.Returned.{Answer}
use Rattle.format.specs.declared.Hint.{Hint}
use Rattle.format.specs.Returned.{HintAnswer}
use Rattle.format.specs.declared.Place.{Place}
use Rattle.format.specs.declared.Refusal.{Refusal}

-- a result is one answer exactly where what it means is that answer's
pub answer_is : (r s : Answer) {j : Judged (Option Place)} → answered r ≡ j → (r ≡ s) ↔ (j ≡ answered s)
answer_is r s h = (λ e. sym h ∙ ap (λ x. answered x) e, λ e. same_answer r s (h ∙ e))

pub hint_answer_is : (r s : HintAnswer) {j : Judged (Option Hint)} → hint_answered r ≡ j → (r ≡ s) ↔ (j ≡ hint_answered s)
hint_answer_is r s h = (λ e. sym h ∙ ap (λ x. hint_answered x) e, λ e. same_hint_answer r s (h ∙ e))

-- what was told was a part's bytes
pub told_part : (j : Judged (Option Part)) {x : List ℕ} → as_told j ≡ accepted (some x) → (y : Part) × (j ≡ accepted (some y)) × (y.bytes ≡ x)
unfolding as_told
told_part (accepted none) e = absurd (not_some (accepted_is e))
told_part (accepted (some y)) e = (y, refl, some_is (accepted_is e))
told_part (refused n at) e = absurd (not_accepted e)

-- a result that means an answer of parts, and the bytes that are handed back for it
module _ {r : Answer} (j : Judged (Option Part)) (e : answered r ≡ as_place j) where
  pub none_told : (r ≡ (Ok None)) ↔ (j ≡ accepted none)
  unfolding as_place
  none_told = (λ is. place_none j (sym ((answer_is r (Ok None) e).0 is)), λ h. (answer_is r (Ok None) e).1 (rw h))

  pub refused_told : (f : Refusal) → (r ≡ Err f) ↔ (j ≡ refused (number_of f.reason) f.offset.0)
  unfolding as_place
  refused_told f = (λ is. place_refused j (sym ((answer_is r (Err f) e).0 is)), λ h. (answer_is r (Err f) e).1 (rw h))

  module _ {bytes : List ℕ} (b : bytes ≡ as_bytes j) where
    pub found_told : {place : Place} {x : List ℕ} → r ≡ Ok (Some place) → bytes ≡ x → as_told j ≡ accepted (some x)
    unfolding as_told as_bytes
    found_told {place} {x} is second =
        let (y, here, there) = place_found j (sym ((answer_is r (Ok (Some place)) e).0 is)) in
        let same : y.bytes ≡ x = sym (b ∙ ap (λ i. as_bytes i) here) ∙ second in
        rw (here, same)

    pub told_found : (y : Part) → j ≡ accepted (some y) → (r ≡ Ok (Some (place_of y))) × (bytes ≡ y.bytes)
    unfolding as_place as_bytes
    told_found y h = ((answer_is r (Ok (Some (place_of y))) e).1 (rw h), b ∙ rw h)
