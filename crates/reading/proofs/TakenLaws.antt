-- The part at an answer's place is the very bytes of what was lent.
use Rattle.std.specs.Prelude.{Ok, Err, Some, None}
use Prim.Native.Nat.{ℕ, ◌+◌, ◌-◌, ◌≤◌, ◌<◌}
use mathlib.Core.List.{List, []}
use mathlib.Core.Option.{Option, none, some}
use mathlib.Core.Path.{◌≡◌, refl, sym, ◌∙◌}
use native.Mathlib.Nat.{zero-add}
use native.Mathlib.Omega.{arith}
use borrow.Author.Rules.{rules}
use borrow.Author.Tests.{le-leb, lt-leb}
use lib.ListN.{length, take, drop}
use Rattle.format.specs.Reading.{Judged, accepted, refused}
use Rattle.format.specs.Parts.{Part}
use Rattle.format.specs.Questions.{as_place, as_bytes, start_of, answered}
use Rattle.format.specs.Laws.Outcomes.{not_accepted, accepted_is}
use Rattle.format.specs.Laws.Options.{not_some, some_is}
use Rattle.format.proofs.Nested.{nested}
use Rattle.format.proofs.Laws.Places.{PartIn, lies_there, lies_inside}
use Rattle.format.specs.Returned.{Answer}
use Rattle.format.specs.declared.Refusal.{Refusal}
use Rattle.format.specs.declared.Place.{Place}
use Rattle.reading.specs.Taken.{taken_of, taken_from, Takes}

-- taken at a place, or empty where none lies
module _ {s : List ℕ} {a : Answer} {at : ℕ × ℕ} where
  empty : taken_of s a ≡ [] → taken_from s a ≡ 0 → Takes s at a [] at
  empty b f = record { bytes_are = sym b; begins_there = rw (f, zero-add) }

  module _ {p : Place} (e : a ≡ Ok (Some p)) where
    outside : length s < p.offset.0 + p.length → Takes s at a [] at
    unfolding taken_of taken_from
    outside h = let no = lt-leb (p.offset.0 + p.length) (length s) h in empty (rw (e, no)) (rw (e, no))

    pub taken_far : length s < p.offset.0 → Takes s at a [] at
    taken_far h = outside (omega arith)

    pub taken_long : p.offset.0 ≤ length s → length s - p.offset.0 < p.length → Takes s at a [] at
    taken_long l h = outside (omega arith)

    pub taken_there : p.offset.0 ≤ length s → p.length ≤ length s - p.offset.0 → Takes s at a (take (p.offset.0 + p.length - p.offset.0) (drop p.offset.0 s)) (at.0, p.offset.0 + at.1)
    unfolding taken_of taken_from
    taken_there l h =
        let yes = le-leb (p.offset.0 + p.length) (length s) (omega arith) in
        let n : p.offset.0 + p.length - p.offset.0 ≡ p.length = omega arith in
        record { bytes_are = rw (e, yes, n); begins_there = rw (e, yes) }

module _ {s : List ℕ} {a : Answer} {at : ℕ × ℕ} where
  pub taken_none : a ≡ Ok None → Takes s at a [] at
  unfolding taken_of taken_from
  taken_none e = empty (rw e) (rw e)

  pub taken_refused : {r : Refusal} → a ≡ Err r → Takes s at a [] at
  unfolding taken_of taken_from
  taken_refused e = empty (rw e) (rw e)

pub ruleset taken_steps = (taken_none, taken_refused, taken_far, taken_long, taken_there, nested, rules)

-- What an answer means lies in what was lent, so it is taken there
taken_is : (s : List ℕ) (a : Answer) (j : Judged (Option Part)) → answered a ≡ as_place j → ((p : Part) → j ≡ accepted (some p) → PartIn s p) → (taken_of s a ≡ as_bytes j) × (taken_from s a ≡ start_of j)
unfolding taken_of taken_from as_bytes start_of as_place
taken_is s (Ok None) (accepted none) e h = (refl, refl)
taken_is s (Ok None) (accepted (some p)) e h = absurd (not_some (accepted_is e))
taken_is s (Ok None) (refused n at) e h = absurd (not_accepted (sym e))
taken_is s (Ok (Some pl)) (accepted none) e h = absurd (not_some (sym (accepted_is e)))
taken_is s (Ok (Some pl)) (accepted (some p)) e h =
    let is = some_is (accepted_is e) in
    let l = h p refl in
    let yes = le-leb (p.at + length p.bytes) (length s) (lies_inside l) in
    (rw (is, yes, lies_there l), rw (is, yes))
taken_is s (Ok (Some pl)) (refused n at) e h = absurd (not_accepted (sym e))
taken_is s (Err r) (accepted x) e h = absurd (not_accepted e)
taken_is s (Err r) (refused n at) e h = (refl, refl)

module _ {s : List ℕ} {a : Answer} {j : Judged (Option Part)} {at begins : ℕ × ℕ} {bytes : List ℕ} (t : Takes s at a bytes begins) (e : answered a ≡ as_place j) (lies : (p : Part) → j ≡ accepted (some p) → PartIn s p) where
  pub answer_bytes : bytes ≡ as_bytes j
  answer_bytes = t.bytes_are ∙ (taken_is s a j e lies).0

  pub answer_start : begins ≡ (at.0, start_of j + at.1)
  answer_start = rw (← (taken_is s a j e lies).1) t.begins_there
