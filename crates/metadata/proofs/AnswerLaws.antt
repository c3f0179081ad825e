-- What a judgement says: of the payload, of the data where it is asked, and of a hint.
use Rattle.std.specs.Prelude.{Ok, Err, Some, None}
use Prim.Native.Nat.{ℕ, ◌<◌}
use mathlib.Core.List.{List, [], ◌∷◌}
use mathlib.Core.Option.{some}
use mathlib.Core.Path.{◌≡◌, refl, sym, ap, ◌∙◌}
use native.Mathlib.Omega.{arith}
use borrow.Author.Rules.{rules}
use lib.ListN.{length, get_or, take}
use lib.Seq.{drop-cons}
use Rattle.format.specs.Reading.{Reader, accepted, refused, verdict}
use Rattle.format.specs.Refusals.{number_of}
use Rattle.format.specs.Parts.{Part}
use Rattle.format.specs.Questions.{answered, as_place}
use Rattle.format.specs.Metadata.{data_of, hint_item, judge_metadata, item_at, ask_metadata, hint_in, ask_hint, hint_answered}
use Rattle.format.specs.Laws.Outcomes.{mapped, refused_exactly}
use Rattle.format.proofs.Laws.Hints.{hint_is, found_hint}
use Rattle.format.proofs.Laws.Places.{lies_inside, lies_there, PartIn, hint_located}
use Rattle.format.proofs.Laws.Found.{item_lies}
use Rattle.format.specs.Returned.{Answer}
use Rattle.format.specs.declared.CodeOffset.{CodeOffset}
use Rattle.format.specs.declared.FunctionIndex.{FunctionIndex}
use Rattle.format.specs.declared.Hint.{Hint}
use Rattle.format.specs.declared.Hint.TheVariants.{Unlikely, Likely}
use Rattle.format.specs.declared.Refusal.{Refusal}
use Rattle.reading.proofs.Laws.{lies_left}
use Rattle.reading.specs.Cursors.{Inside, left, part_of}
use Rattle.reading.specs.declared.Cursor.{Cursor}
use Rattle.format.specs.Verdicts.{verdict_of}
use Rattle.tables.specs.Finding.{HeldOrdered, answer_of}
use Rattle.tables.specs.Steps.{held_of}
use Rattle.tables.specs.declared.Wanted.{Wanted}
use Rattle.tables.proofs.FindLaws.{held_ordered_lem, held_means}
use Rattle.metadata.specs.Asking.{wanted_of, JudgesFor}
use Rattle.tables.specs.Returned.{Held}

-- what a judgement says of the payload, whatever is wanted
module _ {value : Reader Part} {function offset : Wanted} {s : List ℕ} {c : Cursor} where
  pub judgement_refused : {r : Refusal} → JudgesFor value function offset s c (Err r) → verdict_of (Err r) ≡ verdict (judge_metadata value c.at (left s c))
  unfolding wanted_of
  judgement_refused q = sym ((refused_exactly (λ _. tt) (judge_metadata value c.at (left s c))).1 ((refused_exactly _ (judge_metadata value c.at (left s c))).0 (sym q.says)))

  pub judgement_accepted : {held : Held} → JudgesFor value function offset s c (Ok held) → verdict_of (Ok tt) ≡ verdict (judge_metadata value c.at (left s c))
  unfolding wanted_of
  judgement_accepted q = mapped _ (judge_metadata value c.at (left s c)) (sym q.says) λ t e _. rw e

pub ruleset judgements = (judgement_refused, judgement_accepted, rules)

-- and of the place that is asked for
module _ {value : Reader Part} {f : FunctionIndex} {at : CodeOffset} {s : List ℕ} {c : Cursor} where
  module _ {r : Refusal} (q : JudgesFor value (record { 0 = f.0 }) (record { 0 = at.0 }) s c (Err r)) where
    refused_so : ask_metadata value f at c.at (left s c) ≡ refused (number_of r.reason) r.offset.0
    unfolding wanted_of ask_metadata item_at
    refused_so = sym q.says

    pub find_refused : answered (Err r) ≡ as_place (ask_metadata value f at c.at (left s c))
    unfolding as_place
    find_refused = rw refused_so

  module _ {held : Held} (q : JudgesFor value (record { 0 = f.0 }) (record { 0 = at.0 }) s c (Ok held)) where
    holds : ask_metadata value f at c.at (left s c) ≡ accepted (held_of s held)
    unfolding wanted_of ask_metadata item_at
    holds = sym q.says

    pub find_ordered : HeldOrdered held
    find_ordered = held_ordered_lem s held q.inside

    pub find_held : {y : Answer} → y ≡ answer_of held → answered y ≡ as_place (ask_metadata value f at c.at (left s c))
    find_held is = rw (is, holds) (held_means s held q.inside)

pub ruleset finds = (find_refused, find_ordered, find_held, rules)

one_byte : (h : Hint) → length (data_of h) ≡ 1
unfolding data_of
one_byte Unlikely = refl
one_byte Likely = refl

-- a part of one byte is that byte
byte_is : (s : List ℕ) (x : Part) (h : Hint) → PartIn s x → x.bytes ≡ data_of h → (x.at < length s) × (get_or s x.at 0 ∷ [] ≡ data_of h)
byte_is s x h l e =
    let one : length x.bytes ≡ 1 = ap length e ∙ one_byte h in
    let inside : x.at < length s = omega (arith, lies_inside l) in
    let there = rw one at (lies_there l) in
    (inside, sym (ap (take 1) (drop-cons s x.at 0 inside)) ∙ there ∙ e)

is_likely : (h : Hint) {b : ℕ} → b ∷ [] ≡ data_of h → b ≡ 1 → Likely ≡ h
unfolding data_of
is_likely Unlikely q e = absurd (let z : ◌≡◌ {A = ℕ} 0 1 = cc in omega arith)
is_likely Likely q e = refl

is_unlikely : (h : Hint) {b : ℕ} → b ∷ [] ≡ data_of h → (b ≡ 1 → ⊥) → Unlikely ≡ h
unfolding data_of
is_unlikely Unlikely q n = refl
is_unlikely Likely q n = absurd (n cc)

hint_told : (f : FunctionIndex) (at : CodeOffset) (o : ℕ) (bs : List ℕ) {x : Part} {h : Hint} → ask_metadata hint_item f at o bs ≡ accepted (some x) → x.bytes ≡ data_of h → ask_hint f at o bs ≡ accepted (some h)
unfolding ask_hint hint_in
hint_told f at o bs {x} {h} e q = rw e (ap accepted (rw q (hint_is h)))

-- a hint's judgement, and the data byte of a hint that was found
module _ {f : FunctionIndex} {at : CodeOffset} {s : List ℕ} {c : Cursor} where
  pub hint_refused : {r : Refusal} → JudgesFor hint_item (record { 0 = f.0 }) (record { 0 = at.0 }) s c (Err r) → hint_answered (Err r) ≡ ask_hint f at c.at (left s c)
  unfolding ask_hint
  hint_refused q = sym ((refused_exactly hint_in (ask_metadata hint_item f at c.at (left s c))).1 (refused_so q))

  module _ (i : Inside s c) {held : Held} (q : JudgesFor hint_item (record { 0 = f.0 }) (record { 0 = at.0 }) s c (Ok held)) where
    pub hint_none : held ≡ None → hint_answered (Ok None) ≡ ask_hint f at c.at (left s c)
    unfolding ask_hint hint_in
    hint_none h = rw (holds q, h)

    module _ {data' : Cursor} (is : held ≡ Some data') where
      -- one byte, which says which hint
      record HintThere : Type 0 where
        hint : Hint
        told : ask_hint f at c.at (left s c) ≡ accepted (some hint)
        inside : data'.at < length s
        byte : get_or s data'.at 0 ∷ [] ≡ data_of hint

      hint_there : HintThere
      hint_there =
          let there : ask_metadata hint_item f at c.at (left s c) ≡ accepted (some (part_of s data')) = rw is at (holds q) in
          let (h, holds) = found_hint f at c.at (left s c) there in
          let byte = byte_is s (part_of s data') h (item_lies hint_located f at s c.at (left s c) (lies_left i) there) holds in
          record { hint = h; told = hint_told f at c.at (left s c) there holds; inside = byte.0; byte = byte.1 }

      pub byte_inside : data'.at < length s
      byte_inside = hint_there.inside

      pub hint_likely : get_or s data'.at 0 ≡ 1 → hint_answered (Ok (Some Likely)) ≡ ask_hint f at c.at (left s c)
      hint_likely b = let t = hint_there in ap (λ h. accepted (some h)) (is_likely t.hint t.byte b) ∙ sym t.told

      pub hint_unlikely : (get_or s data'.at 0 ≡ 1 → ⊥) → hint_answered (Ok (Some Unlikely)) ≡ ask_hint f at c.at (left s c)
      hint_unlikely b = let t = hint_there in ap (λ h. accepted (some h)) (is_unlikely t.hint t.byte b) ∙ sym t.told

pub ruleset hints = (hint_refused, hint_none, byte_inside, hint_likely, hint_unlikely, rules)
