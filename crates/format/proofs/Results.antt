-- Rule R21.2 of docs/RULES.md.
-- Demand 2, said of the results of calls: what a call that meets its promise hands back.
use Rattle.std.specs.Prelude.{ℕ, ◌+◌, ◌≤◌, List, ◌↔◌, ◌≡◌, length, take, drop, Ok, Err, Some, None}
use Rattle.std.proofs.Math.Logic.Iff
use Rattle.std.proofs.Math.Option.{Option, some}
use Rattle.std.proofs.Common.{◌∙◌}
use Rattle.format.specs.Refusals.{number_of}
use Rattle.format.specs.Reading.{Judged, accepted, refused, Accepted}
use Rattle.format.specs.Parts.{Part}
use Rattle.format.specs.Questions.{as_place, as_bytes, as_told, answered}
use Rattle.format.specs.Holding.{HasWithin}
use Rattle.format.specs.Metadata.{data_of, hint_item, judge_metadata, ask_hint, hint_answered}
use Rattle.format.specs.Canonical.{bare_items}
use Rattle.format.proofs.Theorems.{Answers, hints_answered}
use Rattle.format.proofs.Laws.Calls.{hint_answer_is, told_part, found_told, told_found, none_told, refused_told}
use Rattle.format.specs.Returned.{Answer}
use Rattle.format.specs.declared.CodeOffset.{CodeOffset}
use Rattle.format.specs.declared.FunctionIndex.{FunctionIndex}
use Rattle.format.specs.declared.Hint.{Hint}
use Rattle.format.specs.Returned.{HintAnswer}
use Rattle.format.specs.declared.Place.{Place}
use Rattle.format.specs.declared.Refusal.{Refusal}

-- The first call finds a place inside what was lent, where exactly these bytes lie, and the second call hands back these very bytes.
pub record FoundAs (lent : List ℕ) (r : Answer) (bytes x : List ℕ) : Type 0 where
  pub place : Place
  pub is : r ≡ Ok (Some place)
  pub inside : place.offset.0 + place.length ≤ length lent
  pub there : take place.length (drop place.offset.0 lent) ≡ x
  pub second : bytes ≡ x

-- Of an accepted payload the two calls find exactly what it holds, and none exactly where it holds nothing; they refuse exactly what the judgement refuses.
module _ {A Q : Type 0} (judgement : List ℕ → Judged A) (Held : A → Q → List ℕ → Type 0) where
  pub record CallAnswers (q : Q) (p : List ℕ) (r : Answer) (bytes : List ℕ) : Type 0 where
    pub found_exactly : (a : Accepted judgement p) (x : List ℕ) → FoundAs p r bytes x ↔ Held a.value q x
    pub none_exactly : (a : Accepted judgement p) → (r ≡ (Ok None)) ↔ ((x : List ℕ) → Held a.value q x → ⊥)
    pub refused_exactly : (f : Refusal) → (r ≡ Err f) ↔ (judgement p ≡ refused (number_of f.reason) f.offset.0)

-- Of accepted hints the call finds exactly the hint that they hold, and none exactly where they hold none; it refuses exactly what the judgement refuses.
pub record CallHints (f : FunctionIndex) (at : CodeOffset) (p : List ℕ) (r : HintAnswer) : Type 0 where
  pub found_exactly : (a : Accepted (judge_metadata hint_item 0) p) (h : Hint) → (r ≡ Ok (Some h)) ↔ HasWithin f.0 at.0 (data_of h) (bare_items a.value)
  pub none_exactly : (a : Accepted (judge_metadata hint_item 0) p) → (r ≡ (Ok None)) ↔ ((x : List ℕ) → HasWithin f.0 at.0 x (bare_items a.value) → ⊥)
  pub refused_exactly : (e : Refusal) → (r ≡ Err e) ↔ (judge_metadata hint_item 0 p ≡ refused (number_of e.reason) e.offset.0)

-- THE PROOFS

module _ {A Q : Type 0} {judgement : List ℕ → Judged A} {answer : Q → List ℕ → Judged (Option Part)} {Held : A → Q → List ℕ → Type 0} (answers : Answers judgement answer Held) where
  there_found : (q : Q) (p : List ℕ) {r : Answer} {bytes x : List ℕ} → answered r ≡ as_place (answer q p) → bytes ≡ as_bytes (answer q p) → as_told (answer q p) ≡ accepted (some x) → FoundAs p r bytes x
  there_found q p e b told =
      let (y, here, same) = told_part (answer q p) told in
      let (is, second) = told_found (answer q p) e b y here in
      let very = answers.very_bytes q p here in
      record { place = _; is = is; inside = very.inside; there = very.bytes ∙ same; second = second ∙ same }

  pub calls_answer : (q : Q) (p : List ℕ) (r : Answer) (bytes : List ℕ) → answered r ≡ as_place (answer q p) → bytes ≡ as_bytes (answer q p) → CallAnswers judgement Held q p r bytes
  calls_answer q p r bytes e b = record {
    found_exactly = λ a x. (λ f. (answers.found a q x).0 (found_told (answer q p) e b f.is f.second), λ h. there_found q p e b ((answers.found a q x).1 h));
    none_exactly = λ a. Iff.trans (none_told (answer q p) e) (answers.none_found a q);
    refused_exactly = λ f. Iff.trans (refused_told (answer q p) e f) (answers.refuses q p (number_of f.reason) f.offset.0);
  }

pub hints_call : (f : FunctionIndex) (at : CodeOffset) (p : List ℕ) (r : HintAnswer) → hint_answered r ≡ ask_hint f at 0 p → CallHints f at p r
hints_call f at p r e = record {
  found_exactly = λ a h. Iff.trans (hint_answer_is r (Ok (Some h)) e) (hints_answered.found a f at h);
  none_exactly = λ a. Iff.trans (hint_answer_is r (Ok None) e) (hints_answered.none_found a f at);
  refused_exactly = λ x. Iff.trans (hint_answer_is r (Err x) e) (hints_answered.refuses f at p (number_of x.reason) x.offset.0);
}
