-- The markers of a map that stands there: 13 where a list is too short, or all of them in both lists.
use Rattle.std.specs.Prelude.{Ok, Err, Some}
use Prim.Native.Nat.{ℕ, ◌+◌, ◌/◌, ◌≤◌, ◌<◌}
use mathlib.Core.List.{List, [], ◌∷◌}
use mathlib.Core.Path.{◌≡◌, refl, ◌∙◌}
use native.Mathlib.Omega.{arith}
use borrow.Author.Rules.{rules}
use borrow.Author.Tests.{le-leb, lt-leb}
use lib.Dec.{leb}
use lib.ListN.{length, length-map}
use Rattle.format.specs.Refusals.{number_of}
use Rattle.format.specs.Reading.{Judged, accepted, refused}
use Rattle.format.specs.Numbers.{number, limit32}
use Rattle.format.specs.Parts.{sized}
use Rattle.format.specs.Tables.{rows, table}
use Rattle.format.specs.Markers.{Entry, entries, all_entries, thinned, Markers, indices_of, offsets_of, fitting_both, Makes}
use Rattle.format.specs.Laws.Outcomes.{and_false}
use Rattle.format.specs.Returned.{Answer}
use Rattle.format.specs.declared.Reason.TheVariants.{OutputTooShort}
use Rattle.format.specs.declared.Refusal.{Refusal}
use Rattle.reading.specs.Standing.{Stands, Known}
use Rattle.reading.specs.declared.Cursor.{Cursor}
use Rattle.tables.specs.declared.stepping.Rows.{Rows}
use Rattle.tables.proofs.Accepted.{table_rows}
use Rattle.tables.proofs.FindLaws.{count_known}
use Rattle.writing.specs.Wrote.{Wrote}
use Rattle.writing.proofs.Laws.{wrote_nothing}
use Rattle.markers.specs.Making.{Room, PutsAll, Marks}
use Rattle.markers.proofs.PutLaws.{as_entries, marks_of}

-- The answer and both lists, refused and made
pub makes_refused : {wanted : Judged Markers} {is os : List ℕ} {r : Refusal} → wanted ≡ refused (number_of r.reason) r.offset.0 → Makes wanted is os is os (Err r)
makes_refused e = record { says = rw e; indices = rw e; offsets = rw e }

pub makes_all : {wanted : Judged Markers} {m : Markers} {is os is' os' : List ℕ} → wanted ≡ accepted m → Wrote is is' 0 (length m.marked) (indices_of m) → Wrote os os' 0 (length m.marked) (offsets_of m) → Makes wanted is os is' os' (Ok (Some (record { offset = record { 0 = m.end }; length = length m.marked })))
makes_all {m = m} e i o = record {
  says = rw e;
  indices = rw (e, length-map m.marked (λ (x : Entry). x.index)) i.written;
  offsets = rw (e, length-map m.marked (λ (x : Entry). x.offset)) o.written;
}

-- 13, by either list
module _ (is os : ℕ) (m : Markers) where
  few_indices : is < length m.marked → fitting_both is os m ≡ refused (number_of OutputTooShort) (length m.marked)
  unfolding fitting_both
  few_indices h = rw (lt-leb (length m.marked) is h)

  few_offsets : os < length m.marked → fitting_both is os m ≡ refused (number_of OutputTooShort) (length m.marked)
  unfolding fitting_both
  few_offsets h = rw (lt-leb (length m.marked) os h, and_false (leb (length m.marked) is))

  both_fit : length m.marked ≤ is → length m.marked ≤ os → fitting_both is os m ≡ accepted m
  unfolding fitting_both
  both_fit h g = rw (le-leb (length m.marked) is h, le-leb (length m.marked) os g)

no_marker : (l : List Entry) → length l ≡ 0 → l ≡ []
no_marker [] h = refl
no_marker (e ∷ l) h = absurd (omega arith)

module _ {s : List ℕ} {c : Cursor} {all : Rows} (count : Stands number s c all.more all.next) where
  -- a map's entries are those behind its count
  all_stand : {its : List Entry} {last : Cursor} → Stands (entries all.more) s all.next its last → Stands all_entries s c its last
  unfolding all_entries
  all_stand w = record { inside = count.inside; reads = rw count.reads w.reads; behind = w.behind; same_end = w.same_end ∙ count.same_end }

  pub marks_put : {is os is' os' : List ℕ} → PutsAll s all is os is' os' → Marks s c is os is' os' (Ok (Some (record { offset = record { 0 = c.end }; length = (all.more + 15) / 16 })))
  marks_put {is} {os} p =
      let made = makes_all (both_fit (length is) (length os) (record { marked = thinned 0 p.its; end = c.end }) p.indices.fits p.offsets.fits) p.indices p.offsets in
      record { its = p.its; last = p.last; stands = all_stand p.stands; makes = rw (marks_of all.more p.stands) at made }

  module _ (w : Known (table sized) s c) where
    rows_known : Known (rows sized all.more 0) s all.next
    rows_known = record { value = w.value; next = w.next; stands = table_rows sized count w.stands }

    its : Known (entries all.more) s all.next
    its = as_entries all.more rows_known

    many : length (thinned 0 its.value) ≡ (all.more + 15) / 16
    many = marks_of all.more its.stands

    module _ {is os : List ℕ} where
      pub room_there : length s < limit32 → 0 < (all.more + 15) / 16 → (all.more + 15) / 16 ≤ length is → (all.more + 15) / 16 ≤ length os → Room s all is os
      room_there short some_marks h g = record { known = rows_known; some_there = omega (arith, some_marks); in_indices = h; in_offsets = g; short = short }

      -- without an entry nothing is put
      nothing_put : (all.more + 15) / 16 ≤ 0 → PutsAll s all is os is os
      nothing_put h =
          let none_there = no_marker (thinned 0 its.value) (omega (arith, many, h)) in
          record { its = its.value; last = its.next; stands = its.stands; indices = rw none_there (wrote_nothing (omega arith)); offsets = rw none_there (wrote_nothing (omega arith)) }

      pub marks_none : (all.more + 15) / 16 ≤ 0 → Marks s c is os is os (Ok (Some (record { offset = record { 0 = c.end }; length = (all.more + 15) / 16 })))
      marks_none h = marks_put (nothing_put h)

      module _ {r : Answer} (q : r ≡ Err (record { reason = OutputTooShort; offset = record { 0 = (all.more + 15) / 16 } })) where
        too_short : fitting_both (length is) (length os) (record { marked = thinned 0 its.value; end = c.end }) ≡ refused (number_of OutputTooShort) (length (thinned 0 its.value)) → Marks s c is os is os r
        too_short e = rw q (record { its = its.value; last = its.next; stands = all_stand its.stands; makes = makes_refused (e ∙ rw many) })

        pub marks_few_indices : length is < (all.more + 15) / 16 → Marks s c is os is os r
        marks_few_indices h = too_short (few_indices (length is) (length os) _ (omega (arith, many, h)))

        pub marks_few_offsets : length os < (all.more + 15) / 16 → Marks s c is os is os r
        marks_few_offsets h = too_short (few_offsets (length is) (length os) _ (omega (arith, many, h)))

pub ruleset marking = (room_there, marks_few_indices, marks_few_offsets, marks_put, marks_none, count_known, rules)
