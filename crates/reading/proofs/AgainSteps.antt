-- What was accepted is read again, without a test: a number byte by byte, and a part behind its size.
use Prim.Native.Nat.{ℕ, ◌+◌, ◌*◌, ◌%◌, ◌-◌, ◌≤◌, ◌<◌}
use mathlib.Core.List.{List, ◌∷◌}
use mathlib.Core.Path.{◌≡◌, refl, sym, ap, ◌∙◌}
use native.Mathlib.Omega.{arith}
use borrow.Author.Rules.{rules}
use borrow.Author.Tests.{ltb-true, ltb-false, leb-true, eqb-true, eqb-false}
use lib.Dec.{ltb, leb, eqb}
use lib.ListN.{length, get_or}
use lib.Seq.{slice, slice-cons, slice_empty, length-slice}
use Rattle.format.specs.Reading.{Outcome, got, stop}
use Rattle.format.specs.Numbers.{groups, number, limit32}
use Rattle.format.specs.Parts.{sized}
use Rattle.format.specs.Laws.Outcomes.{not_got, by_test, got_value, got_rest}
use Rattle.format.specs.Laws.Turns.{in_sized}
use Rattle.format.proofs.Laws.Passing.{number_passes}
use Rattle.reading.specs.Cursors.{left}
use Rattle.reading.specs.declared.Cursor.{Cursor}
use Rattle.reading.proofs.Laws.{reached, number_read, number_inside, sized_means, part_behind}
use Rattle.reading.proofs.NumberLoop.{onto, Turn, number_begins, group_product, group_sum, next_weight, fifth_product, fifth_sum, last_product, last_sum, number_goes_on, ends, ends_fifth}
use Rattle.reading.proofs.PartSteps.{sized_fits}
use Rattle.reading.specs.Standing.{Stands, Known, TakesPart}

-- The loop over a number's groups: `b` is the byte at `i`, and what begins with it is the rest of a number
pub record Going (s : List ℕ) (c : Cursor) (value weight i b : ℕ) : Type 0 where
  pub more : ℕ
  pub turn : Turn s c.at c.end value weight i more
  pub known : Known number s c
  pub byte : b ≡ get_or s i 0
  pub within : i < c.end

-- a rest of a number is a number
rest_got {ℓ} : {C : Type ℓ} (value weight : ℕ) (r : Outcome ℕ) {v o : ℕ} {bs : List ℕ} → onto value weight r ≡ got v o bs → ((w o' : ℕ) (bs' : List ℕ) → r ≡ got w o' bs' → C) → C
unfolding onto
rest_got value weight (got w o bs) e k = k w o bs refl
rest_got value weight (stop n at) e k = absurd (not_got e)

module _ {s : List ℕ} {c : Cursor} {value weight i more : ℕ} (t : Turn s c.at c.end value weight i more) (k : Known number s c) where
  rest_reads {ℓ} : {C : Type ℓ} → ((w o : ℕ) (bs : List ℕ) → groups more c.at i (slice i c.end s) ≡ got w o bs → C) → C
  rest_reads = rest_got value weight (groups more c.at i (slice i c.end s)) (sym t.same ∙ k.stands.reads)

  turn_within : i < c.end
  unfolding groups
  turn_within =
      by_test (ltb i c.end)
      (λ h. ltb-true i c.end h)
      (λ h.
      let q : i ≡ c.end = omega (arith, t.high, ltb-false i c.end h) in
      rest_reads λ w o bs e. absurd (not_got (rw (q, slice_empty) at e)))

  byte_ahead : slice i c.end s ≡ get_or s i 0 ∷ slice (i + 1) c.end s
  byte_ahead = let j : i + 1 ≡ Prim.Native.Nat.suc i = omega arith in rw j (slice-cons i c.end s 0 turn_within k.stands.inside.within)

  fifth_small : more ≡ 0 → get_or s i 0 ≤ 15
  unfolding groups
  fifth_small z =
      by_test (leb (get_or s i 0) 15)
      (λ h. leb-true (get_or s i 0) 15 h)
      (λ h. rest_reads λ w o bs e. absurd (not_got (rw (z, byte_ahead, h) at e)))

module _ {s : List ℕ} {c : Cursor} where
  pub going_first : {b : ℕ} → Known number s c → b ≡ get_or s c.at 0 → Going s c 0 1 c.at b
  going_first k e =
      let t = number_begins s c.at c.end k.stands.inside.ahead in
      record { more = 4; turn = t; known = k; byte = e; within = turn_within t k }

  pub first_lent : Known number s c → c.at < length s
  first_lent k = let t = number_begins s c.at c.end k.stands.inside.ahead in omega (arith, turn_within t k, k.stands.inside.within)

  module _ {value weight i b : ℕ} (g : Going s c value weight i b) where
    module _ (h : 128 ≤ b) where
      goes_on : g.more ≡ 0 → ⊥
      goes_on z = let small = fifth_small g.turn g.known z in omega (arith, g.byte)

      pub group_fits : weight * (b % 128) < limit32
      group_fits = last_product b g.turn goes_on

      pub value_fits : value + weight * (b % 128) < limit32
      value_fits = last_sum b g.turn goes_on

      pub weight_fits : weight * 128 < limit32
      weight_fits = next_weight g.turn goes_on

      next_turn : Turn s c.at c.end (value + weight * (b % 128)) (weight * 128) (i + 1) (g.more - 1)
      next_turn = number_goes_on g.turn g.byte g.within g.known.stands.inside.within goes_on h

      pub next_lent : i + 1 < length s
      next_lent = omega (arith, turn_within next_turn g.known, g.known.stands.inside.within)

      pub going_on : {b' : ℕ} → b' ≡ get_or s (i + 1) 0 → Going s c (value + weight * (b % 128)) (weight * 128) (i + 1) b'
      going_on e = record { more = g.more - 1; turn = next_turn; known = g.known; byte = e; within = turn_within next_turn g.known }

    module _ (h : b < 128) where
      last {ℓ} : {C : Type ℓ} → ((g.more ≡ 0 → ⊥) → C) → (g.more ≡ 0 → b ≤ 15 → C) → C
      last early fifth =
          by_test (eqb g.more 0)
          (λ z. let q = eqb-true g.more 0 z in fifth q (rw g.byte (fifth_small g.turn g.known q)))
          (λ z. early (eqb-false g.more 0 z))

      pub last_fits : weight * b < limit32
      last_fits = last (λ z. group_product g.turn z h) (λ z l. fifth_product g.turn z l)

      pub whole_fits : value + weight * b < limit32
      whole_fits = last (λ z. group_sum g.turn z h) (λ z l. fifth_sum g.turn z l)

      reads_it : number c.at (left s c) ≡ got (value + weight * b) (i + 1) (left s (record { at = i + 1; end = c.end }))
      reads_it =
          last
          (λ z. ends g.turn g.byte g.within g.known.stands.inside.within z h)
          (λ z l. ends_fifth g.turn g.byte g.within g.known.stands.inside.within z l)

      pub number_stands : Stands number s c (value + weight * b) (record { at = i + 1; end = c.end })
      number_stands = record { inside = g.known.stands.inside; reads = reads_it; behind = number_inside g.known.stands.inside (number_read reads_it refl) refl; same_end = refl }

pub ruleset number_steps = (going_first, first_lent, group_fits, value_fits, weight_fits, next_lent, going_on, last_fits, whole_fits, number_stands, rules)

-- A part behind its size
module _ {s : List ℕ} {c : Cursor} (k : Known sized s c) where
  pub size_known : Known number s c
  size_known =
      let i = k.stands.inside in
      in_sized c.at (left s c) k.stands.reads λ n o r e fits part next rest.
      let there = reached number_passes i e in
      record {
        value = n;
        next = record { at = o; end = c.end };
        stands = record { inside = i; reads = rw (← there.left_there) e; behind = record { ahead = there.inside; within = i.within }; same_end = refl };
      }

  module _ {n : ℕ} {d : Cursor} (z : Stands number s c n d) where
    pub size_fits : n ≤ d.end - d.at
    size_fits =
        in_sized c.at (left s c) k.stands.reads λ m o r e fits part next rest.
        let same = sym e ∙ z.reads in
        let value : m ≡ n = got_value same in
        let bytes : r ≡ left s d = got_rest same in
        omega (arith, fits, value, ap length bytes, length-slice d.at d.end s z.behind.within)

    pub size_ends : d.at + n ≤ length s
    size_ends = omega (arith, size_fits, z.behind.ahead, z.behind.within)

    pub part_stands : TakesPart s c (record { part = record { at = d.at; end = d.at + n }; next = record { at = d.at + n; end = d.end } })
    part_stands =
        let i = k.stands.inside in
        let read = number_read z.reads z.same_end in
        let taken = sized_fits i read size_fits in
        let b = part_behind i taken refl in
        record { stands = record { inside = i; reads = sized_means taken refl; behind = b.in_rest; same_end = b.same_end }; in_part = b.in_part }

pub ruleset part_steps = (size_known, size_fits, size_ends, part_stands, rules)
