-- The loop that reads a number: what was read so far, and what the bytes left will add.
use Rattle.std.specs.Prelude.{Ok, Err}
use Prim.Native.Nat.{ℕ, zero, suc, ◌+◌, ◌*◌, ◌%◌, ◌-◌, ◌≤◌, ◌<◌}
use mathlib.Core.Bool.{true, not}
use mathlib.Core.List.{List, ◌∷◌}
use mathlib.Core.Path.{◌≡◌, refl, sym, ap, ◌∙◌}
use native.Mathlib.Nat.{mul-le-mul_left, mod-lt}
use native.Mathlib.Omega.{arith}
use borrow.Author.Rules.{rules}
use borrow.Author.Tests.{le-ltb, lt-ltb, le-leb, lt-leb, eqb-true, eqb-false}
use lib.Dec.{eqb}
use lib.ListN.{length, get_or, take}
use lib.Seq.{slice, slice-cons, slice_empty, length-slice, get_or-take, get_or-drop}
use Rattle.format.specs.Reading.{Outcome, got, stop, and_then, return}
use Rattle.format.specs.Numbers.{groups, number, limit32}
use Rattle.format.proofs.Laws.Numbers.{limit}
use Rattle.format.specs.Laws.Outcomes.{by_test}
use Rattle.format.proofs.Laws.Padding.{last_byte, one_byte_few, last_tells}
use Rattle.format.specs.declared.Reason.TheVariants.{PastItsPart, NumberTooLarge}
use Rattle.reading.specs.Cursors.{Inside, left, Followed, NumberReads}
use Rattle.reading.specs.declared.Cursor.{Cursor}

-- a number of which `value` is read, and what follows counts `weight` times
unfoldable pub onto : (value weight : ℕ) → Outcome ℕ → Outcome ℕ
onto value weight r = and_then r (λ v. return (value + weight * v))

pub record Turn (s : List ℕ) (at end value weight i more : ℕ) : Type 0 where
  pub low : at ≤ i
  pub high : i ≤ end
  pub turns : more ≤ 4
  pub heavy : weight * limit more ≡ limit32
  pub small : value < weight
  pub same : number at (slice at end s) ≡ onto value weight (groups more at i (slice i end s))

onto_nothing : (r : Outcome ℕ) → r ≡ onto 0 1 r
unfolding onto
onto_nothing (got v o bs) = ap (λ (n : ℕ). got n o bs) (omega arith)
onto_nothing (stop n at) = refl

pub number_begins : (s : List ℕ) (at end : ℕ) → at ≤ end → Turn s at end 0 1 at 4
unfolding number
number_begins s at end h = record { low = omega arith; high = h; turns = omega arith; heavy = refl; small = omega arith; same = onto_nothing (groups 4 at at (slice at end s)) }

-- the next byte and those behind it
ahead : (s : List ℕ) (i end : ℕ) {b : ℕ} → b ≡ get_or s i 0 → i < end → end ≤ length s → slice i end s ≡ b ∷ slice (i + 1) end s
ahead s i end q h l = let j : suc i ≡ i + 1 = omega arith in rw (q, ← j) (slice-cons i end s 0 h l)

onto_more : (value weight d : ℕ) (r : Outcome ℕ) → onto value weight (and_then r (λ v. return (d + 128 * v))) ≡ onto (value + weight * d) (weight * 128) r
unfolding onto
onto_more value weight d (got v o bs) = ap (λ (n : ℕ). got n o bs) (omega arith)
onto_more value weight d (stop n at) = refl

limit_large : (more : ℕ) → 16 ≤ limit more
limit_large zero = omega arith
limit_large (suc more) = omega (arith, limit_large more)

module _ {s : List ℕ} {at end value weight i : ℕ} where
  -- no product or sum wraps
  pub group_product : {more b : ℕ} → Turn s at end value weight i more → (more ≡ 0 → ⊥) → b < 128 → weight * b < limit32
  group_product {more = zero} n z h = absurd (z refl)
  group_product {more = suc more} {b} n z h =
      let p : weight * b ≤ weight * 127 = mul-le-mul_left weight (omega arith) in
      let q : weight * 2048 ≤ weight * (128 * limit more) = mul-le-mul_left weight (omega (arith, limit_large more)) in
      let e = n.heavy in let m = n.small in
      omega arith

  pub group_sum : {more b : ℕ} → Turn s at end value weight i more → (more ≡ 0 → ⊥) → b < 128 → value + weight * b < limit32
  group_sum {more = zero} n z h = absurd (z refl)
  group_sum {more = suc more} {b} n z h =
      let p : weight * b ≤ weight * 127 = mul-le-mul_left weight (omega arith) in
      let q : weight * 2048 ≤ weight * (128 * limit more) = mul-le-mul_left weight (omega (arith, limit_large more)) in
      let e = n.heavy in let m = n.small in
      omega arith

  pub next_weight : {more : ℕ} → Turn s at end value weight i more → (more ≡ 0 → ⊥) → weight * 128 < limit32
  next_weight {more = zero} n z = absurd (z refl)
  next_weight {more = suc more} n z =
      let q : weight * 2048 ≤ weight * (128 * limit more) = mul-le-mul_left weight (omega (arith, limit_large more)) in
      let e = n.heavy in let m = n.small in
      omega arith

  pub fifth_product : {more b : ℕ} → Turn s at end value weight i more → more ≡ 0 → b ≤ 15 → weight * b < limit32
  fifth_product {more} {b} n z h =
      let p : weight * b ≤ weight * 15 = mul-le-mul_left weight h in
      let e : weight * 16 ≡ limit32 = rw z at n.heavy in let m = n.small in
      omega arith

  pub fifth_sum : {more b : ℕ} → Turn s at end value weight i more → more ≡ 0 → b ≤ 15 → value + weight * b < limit32
  fifth_sum {more} {b} n z h =
      let p : weight * b ≤ weight * 15 = mul-le-mul_left weight h in
      let e : weight * 16 ≡ limit32 = rw z at n.heavy in let m = n.small in
      omega arith

  pub number_goes_on : {more b : ℕ} → Turn s at end value weight i more → b ≡ get_or s i 0 → i < end → end ≤ length s → (more ≡ 0 → ⊥) → 128 ≤ b → Turn s at end (value + weight * (b % 128)) (weight * 128) (i + 1) (more - 1)
  unfolding groups
  number_goes_on {more = zero} n q h l z t = absurd (z refl)
  number_goes_on {more = suc more} {b} n q h l z t =
      let d : suc more - 1 ≡ more = omega arith in
      let j : suc i ≡ i + 1 = omega arith in
      let p : weight * (b % 128) ≤ weight * 127 = mul-le-mul_left weight (omega arith) in
      let e : weight * (128 * limit more) ≡ limit32 = n.heavy in let m = n.small in
      rw d (record {
        low = omega (arith, n.low);
        high = omega arith;
        turns = omega (arith, n.turns);
        heavy = omega arith;
        small = omega arith;
        same = n.same ∙ rw (ahead s i end q h l, le-ltb b 128 t, j) (onto_more value weight (b % 128) (groups more at (i + 1) (slice (i + 1) end s)));
      })

  pub last_product : {more : ℕ} (b : ℕ) → Turn s at end value weight i more → (more ≡ 0 → ⊥) → weight * (b % 128) < limit32
  last_product b n z = group_product n z (mod-lt b {m = 128} (omega arith))

  pub last_sum : {more : ℕ} (b : ℕ) → Turn s at end value weight i more → (more ≡ 0 → ⊥) → value + weight * (b % 128) < limit32
  last_sum b n z = group_sum n z (mod-lt b {m = 128} (omega arith))

-- the cursor behind the byte at `i`
abbrev behind_byte : Cursor → ℕ → Cursor
behind_byte c i = record { at = i + 1; end = c.end }

-- a number of several bytes: its last one tells
module _ (s : List ℕ) (c : Cursor) (i v b : ℕ) (inside : Inside s c) (h : i < c.end) (q : b ≡ get_or s i 0) where
  last_is : c.at ≤ i → last_byte (left s (behind_byte c i)) (left s c) ≡ b
  last_is a =
      let l = inside.within in
      let far : length (left s c) - suc (length (left s (behind_byte c i))) ≡ i - c.at = omega (arith, length-slice c.at c.end s l, length-slice (i + 1) c.end s l) in
      let there : c.at + (i - c.at) ≡ i = omega arith in
      rw far (get_or-drop c.at (take c.end s) (i - c.at) 0 ∙ rw there (get_or-take c.end s i 0 h ∙ sym q))

  reads_many : c.at < i → number c.at (left s c) ≡ got v (i + 1) (left s (behind_byte c i)) → NumberReads s c (Ok (v, (behind_byte c i), (not (eqb b 0))))
  reads_many a e =
      let l = inside.within in
      let many : suc (length (left s (behind_byte c i))) < length (left s c) = omega (arith, length-slice c.at c.end s l, length-slice (i + 1) c.end s l) in
      let last : last_byte (left s (behind_byte c i)) (left s c) ≡ b = last_is (omega arith) in
      record { means = sym e; same_part = refl; tells = sym (last_tells c.at (left s c) e many ∙ rw last) }

-- the ways out
module _ {s : List ℕ} {c : Cursor} {value weight i : ℕ} where
  pub ends : {more b : ℕ} → Turn s c.at c.end value weight i more → b ≡ get_or s i 0 → i < c.end → c.end ≤ length s → (more ≡ 0 → ⊥) → b < 128 → number c.at (left s c) ≡ got (value + weight * b) (i + 1) (left s (behind_byte c i))
  unfolding groups onto
  ends {more = zero} n q h l z t = absurd (z refl)
  ends {more = suc more} {b} n q h l z t = let j : suc i ≡ i + 1 = omega arith in rw (ahead s i c.end q h l, lt-ltb b 128 t, j) at n.same

  pub ends_fifth : {more b : ℕ} → Turn s c.at c.end value weight i more → b ≡ get_or s i 0 → i < c.end → c.end ≤ length s → more ≡ 0 → b ≤ 15 → number c.at (left s c) ≡ got (value + weight * b) (i + 1) (left s (behind_byte c i))
  unfolding groups onto
  ends_fifth {b = b} n q h l z t = let j : suc i ≡ i + 1 = omega arith in rw (z, ahead s i c.end q h l, le-leb b 15 t, j) at n.same

  -- the loop is past the first byte, since another follows that one
  past_first : {more b : ℕ} → Turn s c.at c.end value weight i more → Followed s c → b ≡ get_or s i 0 → i < c.end → b < 128 → c.at < i
  past_first n f q h t = by_test (eqb c.at i) (λ e. let is = eqb-true c.at i e in absurd (omega (arith, rw is at (f.first (omega arith))))) (λ e. omega (arith, n.low, eqb-false c.at i e))

  pub number_ends : {more b : ℕ} → Turn s c.at c.end value weight i more → Inside s c → Followed s c → b ≡ get_or s i 0 → i < c.end → (more ≡ 0 → ⊥) → b < 128 → NumberReads s c (Ok ((value + weight * b), (behind_byte c i), (not (eqb b 0))))
  number_ends {b = b} n inside f q h z t = reads_many s c i (value + weight * b) b inside h q (past_first n f q h t) (ends n q h inside.within z t)

  pub fifth_ends : {more b : ℕ} → Turn s c.at c.end value weight i more → Inside s c → Followed s c → b ≡ get_or s i 0 → i < c.end → more ≡ 0 → b ≤ 15 → NumberReads s c (Ok ((value + weight * b), (behind_byte c i), (not (eqb b 0))))
  fifth_ends {b = b} n inside f q h z t = reads_many s c i (value + weight * b) b inside h q (past_first n f q h (omega arith)) (ends_fifth n q h inside.within z t)

  pub number_too_large : {more b : ℕ} → Turn s c.at c.end value weight i more → b ≡ get_or s i 0 → i < c.end → c.end ≤ length s → more ≡ 0 → 15 < b → NumberReads s c (Err (record { reason = NumberTooLarge; offset = record { 0 = c.at } }))
  unfolding groups onto
  number_too_large {b = b} n q h l z t = record { means = sym (rw (z, ahead s i c.end q h l, lt-leb b 15 t) at n.same); same_part = tt; tells = tt }

  pub number_runs_out : {more : ℕ} → Turn s c.at c.end value weight i more → c.end ≤ i → NumberReads s c (Err (record { reason = PastItsPart; offset = record { 0 = c.at } }))
  unfolding groups onto
  number_runs_out n h = let q : i ≡ c.end = omega (arith, n.high) in record { means = sym (rw (q, slice_empty) at n.same); same_part = tt; tells = tt }

pub ruleset number_turns = (number_begins, group_product, group_sum, next_weight, fifth_product, fifth_sum, last_product, last_sum, number_goes_on, number_ends, fifth_ends, number_too_large, number_runs_out, rules)

-- a number of one byte
pub one_byte : {s : List ℕ} {c : Cursor} {b : ℕ} → Inside s c → c.at < c.end → b ≡ get_or s c.at 0 → b < 128 → NumberReads s c (Ok (b, (record { at = c.at + 1; end = c.end }), true))
one_byte {s} {c} {b} i h is l =
    let same : 0 + 1 * b ≡ b = omega arith in
    let e = rw same at (ends (number_begins s c.at c.end i.ahead) is h i.within (λ q. absurd (omega arith)) l) in
    record { means = sym e; same_part = refl; tells = sym (one_byte_few c.at (left s c) e (omega (arith, length-slice c.at c.end s i.within, length-slice (c.at + 1) c.end s i.within))) }

-- where none is left, none is followed; and so is a first byte from 128 on
pub followed_none : {s : List ℕ} {c : Cursor} → c.end ≤ c.at → Followed s c
followed_none h = record { first = λ l. absurd (omega arith) }

pub followed_more : {s : List ℕ} {c : Cursor} {b : ℕ} → b ≡ get_or s c.at 0 → 128 ≤ b → Followed s c
followed_more q h = record { first = λ l. omega arith }

pub ruleset first_byte = (one_byte, followed_none, followed_more, rules)
