-- The loops that measure: so far, and what is still to come.
use Rattle.std.specs.Prelude.{Some, None}
use Prim.Native.Nat.{ℕ, zero, suc, ◌+◌, ◌-◌, ◌/◌, ◌^◌, ◌≤◌, ◌<◌}
use mathlib.Core.List.{List}
use mathlib.Core.Path.{◌≡◌, sym, ap, ◌∙◌}
use native.Mathlib.Nat.{zero-add}
use native.Mathlib.Omega.{arith}
use borrow.Author.Rules.{rules}
use borrow.Author.Tests.{eq-eqb, ne_eqb}
use lib.Dec.{ltb}
use lib.ListN.{length, length-append}
use lib.Seq.{length-slice}
use Rattle.format.specs.Numbers.{number, fewest, shortest, limit32}
use Rattle.format.specs.Parts.{Part, sized}
use Rattle.format.specs.Tables.{Table, size, rows, table}
use Rattle.format.specs.Canonical.{write_part}
use Rattle.format.specs.Laws.Outcomes.{by_test}
use Rattle.reading.specs.Cursors.{Inside, left, part_of}
use Rattle.reading.specs.Standing.{Stands, Known, TakesPart}
use Rattle.reading.specs.declared.Cursor.{Cursor}
use Rattle.reading.specs.declared.again.Piece.{Piece}
use Rattle.tables.specs.Stepping.{behind_at, RowSteps, GroupSteps}
use Rattle.tables.specs.declared.stepping.Rows.{Rows}
use Rattle.tables.specs.Returned.{RowStep}
use Rattle.tables.specs.Returned.{GroupStep}
use Rattle.tables.proofs.Accepted.{rows_table}
use Rattle.tables.proofs.Along.{Along, setting_out, still_known, ended, onward}
use Rattle.tables.proofs.StepLaws.{no_row, a_row, row_left, row_fewer, no_group, a_group, group_left, group_fewer, group_count_known, group_rows_known, group_passed}
use Rattle.copying.specs.Bytes.{bare_rows, rows_of, group_length, one_if_some, kept_groups, groups_of}
use Rattle.copying.specs.Standing.{Measures, MeasuresGroups}
use Rattle.copying.specs.declared.Measured.{Measured}
use Rattle.copying.proofs.Laws.{rows_row, rows_nil, part_length, number_shorter, part_fits, rows_shorter, rows_count, groups_nil, none_kept, groups_row, kept_row, group_is, groups_count, groups_shorter}

-- a part with its size before it
pub sized_is : {s : List ℕ} {part : Cursor} → Inside s part → length (write_part (left s part)) ≡ length (shortest (part.end - part.at)) + (part.end - part.at)
unfolding write_part
sized_is {s} {part} i = simp length-append (rw (length-slice part.at part.end s i.within))

module _ {s : List ℕ} {c : Cursor} {r : Piece} (p : TakesPart s c r) where
  pub size_fits : r.part.end - r.part.at < limit32
  size_fits = omega (arith, part_fits p.stands, part_length p.in_part)

  pub size_ordered : r.part.at ≤ r.part.end
  size_ordered = p.in_part.ahead

fewest_short : (more v : ℕ) → length (fewest more v) ≤ suc more
unfolding fewest
fewest_short zero v = omega arith
fewest_short (suc more) v = by_test (ltb v 128) (λ t. rw t (omega arith)) (λ t. rw t (omega (arith, fewest_short more (v / 128))))

-- no number takes more than five bytes
pub shortest_short : (v : ℕ) → length (shortest v) ≤ 5
unfolding shortest
shortest_short v = fewest_short 4 v

-- Rows
pub record Counting (s : List ℕ) (begun left : Rows) (total : ℕ) : Type 0 where
  pub along : Along sized s begun left
  pub so_far : total + length (rows_of along.to_come_lem) ≡ length (rows_of along.all)
  pub small : begun.next.end < 2 ^ 64

pub counting_none : {s : List ℕ} (begun : Rows) → Known (rows sized begun.more 0) s begun.next → begun.next.end < 2 ^ 64 → Counting s begun begun 0
counting_none begun k h = record { along = setting_out k.stands; so_far = zero-add (length (rows_of k.value)); small = h }

module _ {s : List ℕ} {begun left : Rows} {total : ℕ} (t : Counting s begun left total) where
  pub counting_known : Known (rows sized left.more 0) s left.next
  counting_known = still_known t.along

  module _ {x : RowStep} (r : RowSteps s left x) where
    module _ {k : ℕ} {part next : Cursor} {a b : ℕ} (e : x ≡ Some (k, part, next)) (key : a ≡ length (shortest k)) (text : b ≡ length (shortest (part.end - part.at)) + (part.end - part.at)) where
      counting_on : Counting s begun (behind_at left next) (total + a + b)
      counting_on =
          let p = a_row r e in
          let o = onward t.along p.splits in
          let row_length : length (rows_of t.along.to_come_lem) ≡ a + (b + length (rows_of o.along.to_come_lem)) = ap length (ap rows_of o.split ∙ rows_row k (part_of s part) o.along.to_come_lem) ∙ simp length-append (rw (← sized_is p.in_part ∙ sym text, key)) in
          record { along = o.along; so_far = rw o.same_all (omega (arith, row_length, t.so_far)); small = t.small }

      pub counting_more : {after : Rows} → after ≡ behind_at left next → Counting s begun after (total + a + b)
      counting_more is = rw is counting_on

      counting_within : total + a + b ≤ begun.next.end
      counting_within =
          let u = counting_on in
          let w = u.along.whole in
          omega (arith, u.so_far, rows_shorter begun.more 0 w, w.behind.ahead, w.same_end)

      pub counting_fits : total + a + b < 2 ^ 64
      counting_fits = omega (arith, counting_within, t.small)

      pub counting_key_fits : total + a < 2 ^ 64
      counting_key_fits = omega (arith, counting_within, t.small)

pub counting_all : {n : ℕ} {s : List ℕ} {c : Cursor} {left : Rows} {total : ℕ} {x : RowStep} → Counting s (record { next = c; more = n }) left total → RowSteps s left x → x ≡ None → Measures (rows sized n 0) rows_of s c (record { length = total; next = left.next })
counting_all {x = x} t r h =
    let end = ended t.along (no_row r h) in
    let nothing : length (rows_of t.along.to_come_lem) ≡ 0 = rw (end.nothing, rows_nil) in
    record { value = t.along.all; stands = end.stands; long = omega (arith, nothing, t.so_far) }

-- a row's part
module _ {s : List ℕ} {left : Rows} {x : RowStep} {k : ℕ} {part next : Cursor} (r : RowSteps s left x) (e : x ≡ Some (k, part, next)) where
  pub part_small : part.end - part.at < limit32
  part_small = let p = a_row r e in omega (arith, part_fits p.splits.value, part_length p.in_part)

  pub part_ordered : part.at ≤ part.end
  part_ordered = (a_row r e).in_part.ahead

pub ruleset counting = (counting_none, counting_known, counting_all, counting_more, counting_fits, counting_key_fits, part_small, part_ordered, row_left, row_fewer, rules)

-- One group
module _ (index count rows : ℕ) where
  pub group_left_out : count ≡ 0 → 0 ≡ group_length index count rows
  unfolding group_length
  group_left_out e = rw (eq-eqb count 0 e)

  pub group_stays : {a b : ℕ} → (count ≡ 0 → ⊥) → a ≡ length (shortest index) → b ≡ length (shortest count) → a + b + rows ≡ group_length index count rows
  unfolding group_length
  group_stays e p q = rw (ne_eqb count 0 e, p, q)

  pub group_sum_fits : {a b : ℕ} → length (shortest index) + length (shortest count) + rows < 2 ^ 64 → a ≡ length (shortest index) → b ≡ length (shortest count) → a + b + rows < 2 ^ 64
  group_sum_fits h p q = omega arith

  pub group_key_fits : {a b : ℕ} → a ≡ length (shortest index) → b ≡ length (shortest count) → a + b < 2 ^ 64
  group_key_fits p q = omega (arith, shortest_short index, shortest_short count)

pub none_counts : {count : ℕ} → count ≡ 0 → 0 ≡ one_if_some count
unfolding one_if_some
none_counts {count} e = rw (eq-eqb count 0 e)

pub some_count : {count : ℕ} → (count ≡ 0 → ⊥) → 1 ≡ one_if_some count
unfolding one_if_some
some_count {count} e = rw (ne_eqb count 0 e)

pub ruleset one_group = (group_left_out, group_stays, group_sum_fits, group_key_fits, none_counts, some_count, rules)

-- Groups
pub record CountingGroups (s : List ℕ) (begun left : Rows) (kept total : ℕ) : Type 0 where
  pub along : Along (table sized) s begun left
  pub so_far : total + length (groups_of along.to_come_lem) ≡ length (groups_of along.all)
  pub many : kept + size (kept_groups along.to_come_lem) ≡ size (kept_groups along.all)
  pub small : begun.next.end < 2 ^ 64
  pub few : begun.more < 2 ^ 32

pub groups_none : {s : List ℕ} (begun : Rows) → Known (rows (table sized) begun.more 0) s begun.next → begun.next.end < 2 ^ 64 → begun.more < 2 ^ 32 → CountingGroups s begun begun 0 0
groups_none begun k h f = record { along = setting_out k.stands; so_far = zero-add (length (groups_of k.value)); many = zero-add (size (kept_groups k.value)); small = h; few = f }

module _ {s : List ℕ} {begun left : Rows} {kept total : ℕ} (t : CountingGroups s begun left kept total) where
  pub groups_known : Known (rows (table sized) left.more 0) s left.next
  groups_known = still_known t.along

  module _ {x : GroupStep} (steps : GroupSteps s left x) {k : ℕ} {place : Cursor} (is : x ≡ Some (k, place)) where
    module _ {m : ℕ} {e : Cursor} (j : Stands number s place m e) where
      module _ {r : Measured} (w : Measures (rows sized m 0) rows_of s e r) where
        pub group_sum : length (shortest k) + length (shortest m) + r.length < 2 ^ 64
        group_sum =
            let i = (a_group steps is).splits.index in
            omega (arith, number_shorter i, number_shorter j, rows_shorter m 0 w.stands, w.long, w.stands.behind.ahead, w.stands.same_end, j.same_end, i.same_end, t.along.rest.same_end, t.along.whole.same_end, t.small)

        module _ {g u : ℕ} (long : g ≡ group_length k m r.length) (one : u ≡ one_if_some m) where
          groups_on : CountingGroups s begun (behind_at left r.next) (kept + u) (total + g)
          groups_on =
              let o = onward t.along (group_passed steps is (rows_table sized j w.stands)) in
              let count : size (bare_rows w.value) ≡ m = rows_count m 0 w.stands in
              let bytes : length (groups_of t.along.to_come_lem) ≡ g + length (groups_of o.along.to_come_lem) = ap length (ap groups_of o.split ∙ groups_row k w.value o.along.to_come_lem) ∙ simp length-append (rw (group_is k w.value, count, ← w.long, long)) in
              let counted : size (kept_groups t.along.to_come_lem) ≡ u + size (kept_groups o.along.to_come_lem) = ap (λ (x : Table (Table Part)). size (kept_groups x)) o.split ∙ kept_row k w.value o.along.to_come_lem ∙ rw (count, one) in
              record {
                along = o.along;
                so_far = rw o.same_all (omega (arith, bytes, t.so_far));
                many = rw o.same_all (omega (arith, counted, t.many));
                small = t.small;
                few = t.few;
              }

          pub groups_more : {after : Rows} → after ≡ behind_at left r.next → CountingGroups s begun after (kept + u) (total + g)
          groups_more e = rw e groups_on

          pub groups_fit : total + g < 2 ^ 64
          groups_fit =
              let a = groups_on in
              let z = a.along.whole in
              omega (arith, a.so_far, groups_shorter begun.more 0 z, z.behind.ahead, z.same_end, t.small)

          pub groups_few : kept + u < 2 ^ 32
          groups_few =
              let a = groups_on in
              omega (arith, a.many, groups_count begun.more 0 a.along.whole, t.few)

pub groups_all : {n : ℕ} {s : List ℕ} {c : Cursor} {left : Rows} {kept total : ℕ} {x : GroupStep} → CountingGroups s (record { next = c; more = n }) left kept total → GroupSteps s left x → x ≡ None → MeasuresGroups n s c (record { kept = kept; length = total; next = left.next })
groups_all {x = x} t r h =
    let end = ended t.along (no_group r h) in
    let nothing : length (groups_of t.along.to_come_lem) ≡ 0 = rw (end.nothing, groups_nil) in
    let none : size (kept_groups t.along.to_come_lem) ≡ 0 = rw end.nothing none_kept in
    record { value = t.along.all; stands = end.stands; many = omega (arith, none, t.many); long = omega (arith, nothing, t.so_far) }

pub ruleset counting_groups = (groups_none, groups_known, groups_all, group_count_known, group_rows_known, group_sum, groups_more, groups_fit, groups_few, group_left, group_fewer, rules)
