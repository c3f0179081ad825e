-- What users demand of the calls through a module, said of what they hand back.
use Rattle.std.specs.Prelude.{ℕ, ◌+◌, ◌≤◌, List, ◌≡◌, length, take, drop, Ok, Err, Some, None}
use Rattle.std.proofs.Math.Option.{Option, none, some}
use Rattle.std.proofs.Math.Path.{sym, ap}
use Rattle.std.proofs.Common.{◌∙◌}
use Rattle.format.specs.Refusals.{number_of}
use Rattle.format.specs.Reading.{Judged, accepted, refused}
use Rattle.format.specs.Parts.{Part}
use Rattle.format.specs.Names.{Kind}
use Rattle.format.specs.Questions.{ask_at, as_place, as_bytes, answered}
use Rattle.format.specs.declared.Question.{Question}
use Rattle.format.specs.Metadata.{ask_metadata, ask_hint, hint_answered}
use Rattle.format.specs.Walk.{walk, name_section, hint_section, custom_payload}
use Rattle.format.specs.Through.{through, ask_through, metadata_section, item_of, ask_metadata_through, ask_hint_through}
use Rattle.format.proofs.Theorems.{VeryBytes, names_through, metadata_through}
use Rattle.format.proofs.Laws.Answers.{place_found}
use Rattle.format.proofs.Laws.Calls.{none_told, refused_told, hint_answer_is}
use Rattle.format.specs.Returned.{Answer}
use Rattle.format.specs.declared.CodeOffset.{CodeOffset}
use Rattle.format.specs.declared.FunctionIndex.{FunctionIndex}
use Rattle.format.specs.Returned.{HintAnswer}
use Rattle.format.specs.declared.Place.{Place}
use Rattle.format.specs.declared.Refusal.{Refusal}

-- a place in the module, and the second call's bytes are the module's bytes there
pub record LentAt (m bytes : List ℕ) (place : Place) : Type 0 where
  pub inside : place.offset.0 + place.length ≤ length m
  pub very_bytes : bytes ≡ take place.length (drop place.offset.0 m)

module _ (section : List ℕ) (question : ℕ → List ℕ → Judged (Option Part)) where
  pub record CallThrough (m : List ℕ) (r : Answer) (bytes : List ℕ) : Type 0 where
    pub found : (place : Place) → r ≡ Ok (Some place) → LentAt m bytes place
    pub without : custom_payload section m ≡ accepted none → r ≡ (Ok None)
    pub walk_first : (f : Refusal) → walk m ≡ refused (number_of f.reason) f.offset.0 → r ≡ Err f
    pub then_asked : (p : Part) → custom_payload section m ≡ accepted (some p) → answered r ≡ as_place (question p.at p.bytes)

  through_call : (m : List ℕ) (r : Answer) (bytes : List ℕ) → ((x : Part) → through section question m ≡ accepted (some x) → VeryBytes m x) → answered r ≡ as_place (through section question m) → bytes ≡ as_bytes (through section question m) → CallThrough m r bytes
  unfolding through custom_payload as_bytes
  through_call m r bytes very e b = record {
    found = λ place is.
        let (x, here, there) = place_found (through section question m) (rw is at e) in
        let v = very x here in
        rw (← there) (record { inside = v.inside; very_bytes = b ∙ ap as_bytes here ∙ sym v.bytes });
    without = λ h. (none_told (through section question m) e).1 (rw h);
    walk_first = λ f h. (refused_told (through section question m) e f).1 (rw h);
    then_asked = λ p h. e ∙ rw h;
  }

-- Demand 2 through a module. "Asked through an accepted module without the section, each gets none." "A payload asked through its module is judged after the walk and counts from the module's start."
pub name_call_through : (kind_of : ℕ → Kind) (q : Question) (m : List ℕ) (r : Answer) (bytes : List ℕ) → answered r ≡ as_place (ask_through kind_of q m) → bytes ≡ as_bytes (ask_through kind_of q m) → CallThrough name_section (ask_at kind_of q) m r bytes
unfolding ask_through
name_call_through kind_of q m r bytes e b = through_call name_section (ask_at kind_of q) m r bytes (λ x h. (names_through kind_of).very_bytes q m h) e b

pub metadata_call_through : (format : List ℕ) (f : FunctionIndex) (at : CodeOffset) (m : List ℕ) (r : Answer) (bytes : List ℕ) → answered r ≡ as_place (ask_metadata_through format f at m) → bytes ≡ as_bytes (ask_metadata_through format f at m) → CallThrough (metadata_section format) (ask_metadata (item_of format) f at) m r bytes
unfolding ask_metadata_through
metadata_call_through format f at m r bytes e b = through_call (metadata_section format) (ask_metadata (item_of format) f at) m r bytes (λ x h. metadata_through.very_bytes (format, f, at) m h) e b

-- The same for hints, which have no bytes to hand back.
pub record HintsThrough (f : FunctionIndex) (at : CodeOffset) (m : List ℕ) (r : HintAnswer) : Type 0 where
  pub without : custom_payload hint_section m ≡ accepted none → r ≡ (Ok None)
  pub walk_first : (e : Refusal) → walk m ≡ refused (number_of e.reason) e.offset.0 → r ≡ Err e
  pub then_asked : (p : Part) → custom_payload hint_section m ≡ accepted (some p) → hint_answered r ≡ ask_hint f at p.at p.bytes

pub hint_call_through : (f : FunctionIndex) (at : CodeOffset) (m : List ℕ) (r : HintAnswer) → hint_answered r ≡ ask_hint_through f at m → HintsThrough f at m r
unfolding ask_hint_through through custom_payload
hint_call_through f at m r e = record {
  without = λ h. (hint_answer_is r (Ok None) e).1 (rw h);
  walk_first = λ x h. (hint_answer_is r (Err x) e).1 (rw h);
  then_asked = λ p h. e ∙ rw h;
}
