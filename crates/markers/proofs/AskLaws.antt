-- The quick question: an entry read without a judgement, the first of sixteen with the key, and the whole question.
use Rattle.std.specs.Prelude.{Ok, Err, Some, None}
use Prim.Native.Nat.{ℕ, suc, ◌-◌, ◌≤◌, ◌<◌}
use mathlib.Core.Bool.{Bool}
use mathlib.Core.List.{List}
use mathlib.Core.Option.{none}
use mathlib.Core.Path.{◌≡◌, refl, sym, ap, ◌∙◌}
use native.Mathlib.Omega.{arith}
use borrow.Author.Rules.{rules}
use borrow.Author.Tests.{eq-eqb, ne_eqb}
use lib.ListN.{length}
use Rattle.format.specs.Numbers.{number, limit32}
use Rattle.format.specs.Parts.{sized}
use Rattle.format.specs.Questions.{answered, as_place}
use Rattle.format.specs.Reading.{stop, accepted, refused}
use Rattle.format.specs.Refusals.{number_of}
use Rattle.format.specs.Markers.{entry, first_with, from_marker, quick}
use Rattle.format.specs.MarkerRule.{FirstFault, NoFault, AllAbove}
use Rattle.format.proofs.Nested.{nested}
use Rattle.format.proofs.Laws.MarkerEntries.{entry_reads}
use Rattle.format.proofs.Laws.MarkerRule.{quick_long, quick_fewer_indices, quick_fewer_offsets, quick_end_outside, quick_fault, quick_answers, all_above, starts_at}
use Rattle.format.specs.Returned.{Answer}
use Rattle.format.specs.declared.FunctionIndex.{FunctionIndex}
use Rattle.format.specs.declared.Reason.{Reason}
use Rattle.format.specs.declared.Reason.TheVariants.{SubsectionTooLarge, NotMarkers}
use Rattle.format.specs.declared.Refusal.{Refusal}
use Rattle.reading.specs.Cursors.{Inside, left, NumberReads, PartReads}
use Rattle.reading.specs.declared.Cursor.{Cursor}
use Rattle.reading.specs.Returned.{NumberRead}
use Rattle.reading.specs.Returned.{PartRead}
use Rattle.reading.proofs.Laws.{number_means, number_inside, sized_means, part_behind}
use Rattle.tables.specs.Finding.{HeldOrdered, answer_of}
use Rattle.tables.specs.Steps.{held_of}
use Rattle.tables.specs.Returned.{Held}
use Rattle.tables.proofs.FindLaws.{held_ordered_lem, held_means}
use Rattle.markers.specs.Asking.{Takes, Stops, EntryReads, FindsFirst}
use Rattle.markers.specs.Looking.{Begins, Looks}
use Rattle.markers.specs.Returned.{EntryRead}
use Rattle.markers.specs.Returned.{Looked}

-- An entry: its index, then its text
module _ {s : List ℕ} {c : Cursor} where
  pub entry_no_index : {x : NumberRead} {r : Refusal} → NumberReads s c x → x ≡ Err r → EntryReads s c None
  unfolding entry
  entry_no_index {r = r} n e =
      let stops : number c.at (left s c) ≡ stop (number_of r.reason) r.offset.0 = sym (rw e at n.means) in
      record { reads = record { number = number_of r.reason; at = r.offset.0; reads = rw stops } }

  module _ {x : NumberRead} {k : ℕ} {d : Cursor} {told : Bool} (i : Inside s c) (n : NumberReads s c x) (e : x ≡ Ok (k, d, told)) where
    pub index_inside : Inside s d
    index_inside = number_inside i n e

    pub entry_no_text : {y : PartRead} {r : Refusal} → PartReads sized s d y → y ≡ Err r → EntryReads s c None
    unfolding entry
    entry_no_text {r = r} t q =
        let stops : sized d.at (left s d) ≡ stop (number_of r.reason) r.offset.0 = sym (rw q at t.means) in
        record { reads = record { number = number_of r.reason; at = r.offset.0; reads = rw (number_means n e, stops) } }

    pub entry_whole : {y : PartRead} {text next : Cursor} {told' : Bool} → PartReads sized s d y → y ≡ Ok (text, next, told') → EntryReads s c (Some (k, text, next))
    entry_whole t q =
        let b = part_behind index_inside t q in
        record { reads = record { reads = entry_reads c.at (left s c) (number_means n e) (sized_means t q); in_text = b.in_part; in_rest = b.in_rest } }

pub ruleset one_entry = (entry_no_index, index_inside, entry_no_text, entry_whole, rules)

-- Entries one by one: the first with the key among all is that among those to come
pub record Reading (s : List ℕ) (c : Cursor) (key : ℕ) (next : Cursor) (more : ℕ) : Type 0 where
  pub inside : Inside s next
  pub same : first_with 16 key c.at (left s c) ≡ first_with more key next.at (left s next)

module _ {s : List ℕ} {c : Cursor} {key : ℕ} where
  pub reading_first : Inside s c → Reading s c key c 16
  reading_first i = record { inside = i; same = refl }

  module _ {next : Cursor} {more : ℕ} (t : Reading s c key next more) where
    pub reading_inside : Inside s next
    reading_inside = t.inside

    pub reading_ended : more ≤ 0 → FindsFirst s c key None
    unfolding first_with
    reading_ended h = let none_left : more ≡ 0 = omega arith in record { finds = sym (t.same ∙ rw none_left); inside = tt }

    module _ (h : 0 < more) where
      -- one is read, and the others behind it
      by_one : first_with 16 key c.at (left s c) ≡ first_with (suc (more - 1)) key next.at (left s next)
      by_one = let one : suc (more - 1) ≡ more = omega (arith, h) in rw one t.same

      pub reading_stops : {x : EntryRead} → EntryReads s next x → x ≡ None → FindsFirst s c key None
      unfolding first_with
      reading_stops r e = let stops : Stops s next = rw e at r.reads in record { finds = sym (by_one ∙ rw stops.reads); inside = tt }

      module _ {x : EntryRead} {k : ℕ} {text behind : Cursor} (r : EntryReads s next x) (e : x ≡ Some (k, text, behind)) where
        taken : Takes s next k text behind
        taken = rw e at r.reads

        pub reading_hit : k ≡ key → FindsFirst s c key (Some text)
        unfolding first_with
        reading_hit q = record { finds = sym (by_one ∙ rw (taken.reads, eq-eqb key k (sym q))); inside = taken.in_text }

        pub reading_on : (k ≡ key → ⊥) → Reading s c key behind (more - 1)
        unfolding first_with
        reading_on n = record { inside = taken.in_rest; same = by_one ∙ rw (taken.reads, ne_eqb key k (λ q. n (sym q))) }

pub ruleset reading_entries = (reading_first, reading_inside, reading_ended, reading_stops, reading_hit, reading_on, rules)

-- THE QUESTION. A look, taken apart
pub look_fault : {is os : List ℕ} {end key : ℕ} {x : Looked} {i : ℕ} → Looks is os end key x → x ≡ Err i → FirstFault end is os i
look_fault l e = rw e at l.finds

pub look_nothing : {is os : List ℕ} {end key : ℕ} {x : Looked} → Looks is os end key x → x ≡ Ok None → NoFault end is os × AllAbove key is
look_nothing l e = rw e at l.finds

pub look_start : {is os : List ℕ} {end key : ℕ} {x : Looked} {o : ℕ} → Looks is os end key x → x ≡ Ok (Some o) → NoFault end is os × Begins is os end key o
look_start l e = rw e at l.finds

-- a refusal for a reason
abbrev refusing : Reason → ℕ → Answer
refusing why at = Err (record { reason = why; offset = record { 0 = at } })

module _ (p is os : List ℕ) (end : ℕ) (f : FunctionIndex) where
  says : {r : Answer} {why : Reason} {at : ℕ} → r ≡ refusing why at → quick p is os end f ≡ refused (number_of why) at → answered r ≡ as_place (quick p is os end f)
  unfolding as_place
  says e q = rw (e, q)

  pub asked_long : {r : Answer} → limit32 ≤ length p → r ≡ refusing SubsectionTooLarge 0 → answered r ≡ as_place (quick p is os end f)
  asked_long h e = says e (quick_long p is os end f h)

  module _ (short : length p < limit32) where
    pub asked_fewer_indices : {r : Answer} → length is < length os → r ≡ refusing NotMarkers (length is) → answered r ≡ as_place (quick p is os end f)
    asked_fewer_indices h e = says e (quick_fewer_indices p is os end f short h)

    pub asked_fewer_offsets : {r : Answer} → length os < length is → r ≡ refusing NotMarkers (length os) → answered r ≡ as_place (quick p is os end f)
    asked_fewer_offsets h e = says e (quick_fewer_offsets p is os end f short h)

    module _ (a : length os ≤ length is) (b : length is ≤ length os) where
      pub same_length : length is ≡ length os
      same_length = omega (arith, a, b)

      pub asked_outside : {r : Answer} → length p < end → r ≡ refusing NotMarkers (length is) → answered r ≡ as_place (quick p is os end f)
      asked_outside h e = says e (quick_end_outside p is os end f short same_length h)

      module _ (inside : end ≤ length p) {x : Looked} (l : Looks is os end f.0 x) where
        pub asked_fault : {r : Answer} {i : ℕ} → x ≡ Err i → r ≡ refusing NotMarkers i → answered r ≡ as_place (quick p is os end f)
        asked_fault q e = says e (quick_fault p is os end f short same_length inside (look_fault l q))

        pub asked_nothing : x ≡ Ok None → answered (Ok None) ≡ as_place (quick p is os end f)
        unfolding as_place from_marker
        asked_nothing h =
            let (n, above) = look_nothing l h in
            sym (rw (quick_answers p is os end f short same_length inside n, all_above f.0 none is os above))

        module _ {o : ℕ} (q : x ≡ Ok (Some o)) where
          pub marker_inside : Inside p (record { at = o; end = end })
          marker_inside = let begins = (look_start l q).1 in record { ahead = omega (arith, begins.below); within = inside }

          pub asked_there : {held : Held} {r : Answer} → FindsFirst p (record { at = o; end = end }) f.0 held → r ≡ answer_of held → answered r ≡ as_place (quick p is os end f)
          unfolding from_marker
          asked_there {held} t e =
              let n = (look_start l q).0 in
              let begins = (look_start l q).1 in
              let starts = starts_at f.0 none is os begins.position same_length begins.last in
              let answers : quick p is os end f ≡ accepted (held_of p held) = quick_answers p is os end f short same_length inside n ∙ rw (starts, ← begins.is_offset, ← t.finds) in
              ap answered e ∙ held_means p held t.inside ∙ ap as_place (sym answers)

pub first_ordered : {s : List ℕ} {c : Cursor} {key : ℕ} {held : Held} → FindsFirst s c key held → HeldOrdered held
first_ordered {s} {held = held} t = held_ordered_lem s held t.inside

pub ruleset question = (asked_long, asked_fewer_indices, asked_fewer_offsets, same_length, asked_outside, asked_fault, asked_nothing, marker_inside, asked_there, first_ordered, nested, rules)
