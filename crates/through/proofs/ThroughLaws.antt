-- What is asked where the walk found the payload, is asked through the module.
use Rattle.std.specs.Prelude.{Ok, Err, Some, None}
use Prim.Native.Nat.{ℕ, ◌+◌, ◌≤◌}
use mathlib.Core.List.{List}
use mathlib.Core.Option.{Option, some}
use mathlib.Core.Path.{◌≡◌, sym, ap, subst, ◌∙◌}
use native.Mathlib.Omega.{arith}
use borrow.Author.Rules.{rules}
use lib.ListN.{length}
use Rattle.format.specs.Bytes.{same}
use Rattle.format.specs.Reading.{Judged, accepted}
use Rattle.format.specs.Parts.{Part}
use Rattle.format.specs.Names.{Kind}
use Rattle.format.specs.Questions.{ask_at, as_place, answered}
use Rattle.format.specs.declared.Question.{Question}
use Rattle.format.specs.Metadata.{ask_metadata, ask_hint, hint_answered}
use Rattle.format.specs.Older.{ask_older}
use Rattle.format.specs.Through.{through, ask_through, metadata_section, item_of, ask_metadata_through, ask_hint_through, ask_older_through}
use Rattle.format.specs.Walk.{name_section, branch_hint, hint_section, older_hint_section, custom_payload}
use Rattle.format.proofs.Nested.{nested}
use Rattle.format.proofs.Laws.Answers.{place_none, place_found, place_refused}
use Rattle.format.proofs.Laws.Found.{payload_lies}
use Rattle.format.specs.Laws.Outcomes.{by_test}
use Rattle.format.proofs.Laws.Places.{lies_inside, lies_there}
use Rattle.format.specs.Returned.{Answer}
use Rattle.format.specs.declared.CodeOffset.{CodeOffset}
use Rattle.format.specs.declared.FunctionIndex.{FunctionIndex}
use Rattle.format.specs.declared.Hint.{Hint}
use Rattle.format.specs.Returned.{HintAnswer}
use Rattle.format.specs.declared.InstructionOffset.{InstructionOffset}
use Rattle.format.specs.declared.Place.{Place}
use Rattle.format.specs.declared.Refusal.{Refusal}
use Rattle.reading.specs.Cursors.{Inside, left}
use Rattle.reading.specs.declared.Cursor.{Cursor}
use Rattle.reading.proofs.PartSteps.{take_drop}
use Rattle.tables.specs.Seeking.{reader_of}
use Rattle.tables.specs.declared.Item.{Item}
use Rattle.through.specs.Sections.{cursor_over, item_called}

-- The payload that the walk found lies in the module
record Payload (x m : List ℕ) (place : Place) : Type 0 where
  part : Part
  found : custom_payload x m ≡ accepted (some part)
  inside : place.offset.0 + place.length ≤ length m
  there : part ≡ record { at = place.offset.0; bytes = left m (cursor_over place) }

module _ (x m : List ℕ) {a : Answer} {place : Place} (e : answered a ≡ as_place (custom_payload x m)) (is : a ≡ Ok (Some place)) where
  payload : Payload x m place
  payload =
      let (p, found, there) = place_found (custom_payload x m) (rw is at e) in
      let lies = payload_lies x m found in
      let bytes = sym (lies_there lies) ∙ take_drop p.at (length p.bytes) m in
      subst (Payload x m) there (record { part = p; found = found; inside = lies_inside lies; there = λ i. record { at = p.at; bytes = bytes i } })

  pub payload_inside : place.offset.0 + place.length ≤ length m
  payload_inside = payload.inside

  pub cursor_inside : {c : Cursor} → c ≡ cursor_over place → Inside m c
  cursor_inside q = rw q (record { ahead = omega arith; within = payload_inside })

  -- one law for all questions
  asked_there : {A : Type 0} (question : ℕ → List ℕ → Judged (Option A)) {c : Cursor} → c ≡ cursor_over place → question c.at (left m c) ≡ through x question m
  unfolding through
  asked_there question q = let p = payload in rw (q, p.found, p.there)

-- and where it found none, or refused, that is the answer
module _ (x m : List ℕ) (question : ℕ → List ℕ → Judged (Option Part)) {a : Answer} (e : answered a ≡ as_place (custom_payload x m)) where
  none_there : a ≡ Ok None → answered (Ok None) ≡ as_place (through x question m)
  unfolding through as_place
  none_there is = rw (place_none (custom_payload x m) (rw is at e))

  refused_there : {r : Refusal} → a ≡ Err r → answered (Err r) ≡ as_place (through x question m)
  unfolding through as_place
  refused_there is = rw (place_refused (custom_payload x m) (rw is at e))

-- Names
module _ (kind_of : ℕ → Kind) (q : Question) (m : List ℕ) (a : Answer) (e : answered a ≡ as_place (custom_payload name_section m)) where
  pub no_names : a ≡ Ok None → answered (Ok None) ≡ as_place (ask_through kind_of q m)
  unfolding ask_through
  no_names is = none_there name_section m (ask_at kind_of q) e is

  pub names_refused : {r : Refusal} → a ≡ Err r → answered (Err r) ≡ as_place (ask_through kind_of q m)
  unfolding ask_through
  names_refused is = refused_there name_section m (ask_at kind_of q) e is

  pub name_there : (r : Answer) {place : Place} {c : Cursor} → a ≡ Ok (Some place) → c ≡ cursor_over place → answered r ≡ as_place (ask_at kind_of q c.at (left m c)) → answered r ≡ as_place (ask_through kind_of q m)
  unfolding ask_through
  name_there r is over says = says ∙ ap as_place (asked_there name_section m e is (ask_at kind_of q) over)

pub ruleset name_questions = (payload_inside, cursor_inside, no_names, names_refused, name_there, nested, rules)

-- Metadata
item_is : (format : List ℕ) → reader_of (item_called format) ≡ item_of format
unfolding item_called item_of
item_is format = by_test (same format branch_hint) (λ t. rw t) (λ t. rw t)

module _ (format : List ℕ) (f : FunctionIndex) (at : CodeOffset) (m : List ℕ) (a : Answer) (e : answered a ≡ as_place (custom_payload (metadata_section format) m)) where
  pub no_data : a ≡ Ok None → answered (Ok None) ≡ as_place (ask_metadata_through format f at m)
  unfolding ask_metadata_through
  no_data is = none_there (metadata_section format) m (ask_metadata (item_of format) f at) e is

  pub data_refused : {r : Refusal} → a ≡ Err r → answered (Err r) ≡ as_place (ask_metadata_through format f at m)
  unfolding ask_metadata_through
  data_refused is = refused_there (metadata_section format) m (ask_metadata (item_of format) f at) e is

  pub data_there : (r : Answer) {place : Place} {c : Cursor} {item : Item} → a ≡ Ok (Some place) → c ≡ cursor_over place → item ≡ item_called format → answered r ≡ as_place (ask_metadata (reader_of item) f at c.at (left m c)) → answered r ≡ as_place (ask_metadata_through format f at m)
  unfolding ask_metadata_through
  data_there r {c = c} is over called says =
      says
      ∙ ap (λ read. as_place (ask_metadata read f at c.at (left m c))) (ap reader_of called ∙ item_is format)
      ∙ ap as_place (asked_there (metadata_section format) m e is (ask_metadata (item_of format) f at) over)

pub ruleset metadata_questions = (payload_inside, cursor_inside, no_data, data_refused, data_there, nested, rules)

-- Hints of an edition: its section, and its question
module _ (x m : List ℕ) (question : ℕ → List ℕ → Judged (Option Hint)) (a : Answer) (e : answered a ≡ as_place (custom_payload x m)) where
  hint_refused : {r : Refusal} → a ≡ Err r → hint_answered (Err r) ≡ through x question m
  unfolding through
  hint_refused is = rw (place_refused (custom_payload x m) (rw is at e))

  hint_none : a ≡ Ok None → hint_answered (Ok None) ≡ through x question m
  unfolding through
  hint_none h = rw (place_none (custom_payload x m) (rw h at e))

  hint_there : (r : HintAnswer) {place : Place} {c : Cursor} → a ≡ Ok (Some place) → c ≡ cursor_over place → hint_answered r ≡ question c.at (left m c) → hint_answered r ≡ through x question m
  hint_there r is over says = says ∙ asked_there x m e is question over

module _ (f : FunctionIndex) (m : List ℕ) (a : Answer) where
  module _ (at : CodeOffset) (e : answered a ≡ as_place (custom_payload hint_section m)) where
    pub newer_refused : {r : Refusal} → a ≡ Err r → hint_answered (Err r) ≡ ask_hint_through f at m
    unfolding ask_hint_through
    newer_refused is = hint_refused hint_section m (ask_hint f at) a e is

    pub newer_none : a ≡ Ok None → hint_answered (Ok None) ≡ ask_hint_through f at m
    unfolding ask_hint_through
    newer_none h = hint_none hint_section m (ask_hint f at) a e h

    pub newer_there : (r : HintAnswer) {place : Place} {c : Cursor} → a ≡ Ok (Some place) → c ≡ cursor_over place → hint_answered r ≡ ask_hint f at c.at (left m c) → hint_answered r ≡ ask_hint_through f at m
    unfolding ask_hint_through
    newer_there r is over says = hint_there hint_section m (ask_hint f at) a e r is over says

  module _ (at : InstructionOffset) (e : answered a ≡ as_place (custom_payload older_hint_section m)) where
    pub older_refused : {r : Refusal} → a ≡ Err r → hint_answered (Err r) ≡ ask_older_through f at m
    unfolding ask_older_through
    older_refused is = hint_refused older_hint_section m (ask_older f at) a e is

    pub older_none : a ≡ Ok None → hint_answered (Ok None) ≡ ask_older_through f at m
    unfolding ask_older_through
    older_none h = hint_none older_hint_section m (ask_older f at) a e h

    pub older_there : (r : HintAnswer) {place : Place} {c : Cursor} → a ≡ Ok (Some place) → c ≡ cursor_over place → hint_answered r ≡ ask_older f at c.at (left m c) → hint_answered r ≡ ask_older_through f at m
    unfolding ask_older_through
    older_there r is over says = hint_there older_hint_section m (ask_older f at) a e r is over says

pub ruleset hint_questions = (payload_inside, cursor_inside, newer_refused, newer_none, newer_there, nested, rules)

pub ruleset older_hint_questions = (payload_inside, cursor_inside, older_refused, older_none, older_there, nested, rules)
