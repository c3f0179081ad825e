-- The look at the lists: blocks that rise, the first position at fault, and the last marker not above the key.
use Rattle.std.specs.Prelude.{Ok, Err, Some, None}
use Prim.Native.Nat.{ℕ, zero, suc, ◌+◌, ◌-◌, ◌≤◌, ◌<◌}
use mathlib.Core.Bool.{Bool, true, false, not, ◌&&◌}
use mathlib.Core.List.{List}
use mathlib.Core.Path.{◌≡◌, refl, sym}
use native.Mathlib.Numerals.{add-one}
use native.Mathlib.Nat.{add-zero}
use native.Mathlib.Omega.{arith}
use borrow.Author.Rules.{rules}
use borrow.Author.Tests.{ltb-true, ltb-false, leb-true, leb-false, not-false}
use lib.Dec.{leb, ltb}
use lib.ListN.{length, get_or}
use Rattle.format.specs.MarkerRule.{AtFault, index_stays_lem, offset_stays_lem, not_below, NoFault, LastNotAbove, AllAbove}
use Rattle.format.specs.Laws.Outcomes.{by_test, on_both, false_true}
use Rattle.markers.specs.Looking.{Rises, SoundOn, Sound, Near, InBlocks, TellsFault, FaultBehind, LastFrom, Looks}

-- One number below the next, and two runs of which the second begins where the first ends
rises_one : (l : List ℕ) (i : ℕ) → Rises l i 1 (ltb (get_or l i 0) (get_or l (i + 1) 0))
rises_one l i = record { all_rise = λ e k p q. let same : k ≡ i = omega arith in rw same (ltb-true (get_or l i 0) (get_or l (i + 1) 0) e) }

rises_both : {l : List ℕ} {i m : ℕ} {a b : Bool} (n : ℕ) → Rises l i n a → Rises l (i + n) m b → Rises l i (n + m) (a && b)
rises_both {l} {i} {m} {a} {b} n f g =
    record {
      all_rise = λ e k u v.
          on_both a b e λ x y.
          by_test (ltb k (i + n))
          (λ t. f.all_rise x k u (ltb-true k (i + n) t))
          (λ t. g.all_rise y k (ltb-false k (i + n) t) (omega arith));
    }

module _ {l : List ℕ} {i : ℕ} {a b : Bool} where
  pub rises_eight : Rises l i 4 a → Rises l (i + 4) 4 b → Rises l i 8 (a && b)
  rises_eight f g = rises_both 4 f g

  pub rises_sixteen : Rises l i 8 a → Rises l (i + 8) 8 b → Rises l i 16 (a && b)
  rises_sixteen f g = rises_both 8 f g

pub rises_four : (l : List ℕ) (i : ℕ) → Rises l i 4 (ltb (get_or l i 0) (get_or l (i + 1) 0) && ltb (get_or l (i + 1) 0) (get_or l (i + 2) 0) && ltb (get_or l (i + 2) 0) (get_or l (i + 3) 0) && ltb (get_or l (i + 3) 0) (get_or l (i + 4) 0))
rises_four l i =
    let next : (k : ℕ) → i + k + 1 ≡ i + (k + 1) = λ k. omega arith in
    let two = rises_both 1 (rises_one l i) (rw (next 1) at (rises_one l (i + 1))) in
    let three = rises_both 2 two (rw (next 2) at (rises_one l (i + 2))) in
    rises_both 3 three (rw (next 3) at (rises_one l (i + 3)))

pub ruleset runs = (rises_four, rises_eight, rises_sixteen, rules)

-- A block: the sixteen positions behind one
module _ {is os : List ℕ} {end i : ℕ} where
  pub not_sound : SoundOn is os end i false
  not_sound = record { indices = record { all_rise = λ e. false_true e }; offsets = record { all_rise = λ e. false_true e }; below = λ e. false_true e }

  pub block_sound : {a b : Bool} → Rises is i 16 a → not a ≡ false → Rises os i 16 b → not b ≡ false → {last : ℕ} → last ≡ get_or os (i + 16) 0 → SoundOn is os end i (ltb last end)
  block_sound {a} {b} f h g h' {last} is = record {
    indices = record { all_rise = λ e. f.all_rise (not-false a h) };
    offsets = record { all_rise = λ e. g.all_rise (not-false b h') };
    below = λ e. omega (arith, is, ltb-true last end e);
  }

pub ruleset blocks = (not_sound, block_sound, rules)

-- a number is below those behind it, where all rise
below_last : (l : List ℕ) (i n : ℕ) → ((k : ℕ) → i ≤ k → k < i + n → get_or l k 0 < get_or l (k + 1) 0) → get_or l i 0 ≤ get_or l (i + n) 0
below_last l i zero f = rw add-zero (omega arith)
below_last l i (suc n) f =
    let next : i + 1 + n ≡ i + suc n = omega arith in
    omega (arith, f i (omega arith) (omega arith), rw next at (below_last l (i + 1) n (λ k p q. f k (omega arith) (omega arith))))

-- A position that is not at fault
module _ {is os : List ℕ} {end : ℕ} where
  first_fine : get_or os 0 0 < end → AtFault end is os 0 → ⊥
  first_fine l (not_below h) = omega arith

  fine : (i : ℕ) → get_or is i 0 < get_or is (suc i) 0 → get_or os i 0 < get_or os (suc i) 0 → get_or os (suc i) 0 < end → AtFault end is os (suc i) → ⊥
  fine i a b l (index_stays_lem h) = omega arith
  fine i a b l (offset_stays_lem h) = omega arith
  fine i a b l (not_below h) = omega arith

  pub sound_first : (length is ≡ 0 → ⊥) → {o : ℕ} → o ≡ get_or os 0 0 → o < end → Sound is os end 0
  sound_first n e h = let l : get_or os 0 0 < end = omega (arith, e, h) in record { within = omega (arith, n); none_at = λ j m f. let same : j ≡ 0 = omega arith in first_fine l (rw same at f) }

  -- one more, and a whole block more
  sound_next : {i : ℕ} → Sound is os end i → suc i < length is → (AtFault end is os (suc i) → ⊥) → Sound is os end (suc i)
  sound_next {i} t h n = record {
    within = h;
    none_at = λ j m f.
        by_test (leb j i)
        (λ e. t.none_at j (leb-true j i e) f)
        (λ e. let same : j ≡ suc i = omega (arith, leb-false j i e) in n (rw same at f));
  }

  sound_on : {i : ℕ} → Sound is os end i → i + 16 < length is → Rises is i 16 true → Rises os i 16 true → get_or os (i + 16) 0 < end → Sound is os end (i + 16)
  sound_on {i} t h f g l = record {
    within = h;
    none_at = λ j m x.
        by_test (leb j i)
        (λ e. t.none_at j (leb-true j i e) x)
        (λ e. let low = leb-false j i e in let same : suc (j - 1) ≡ j = omega (arith, low) in clean (j - 1) (omega (arith, low)) (omega (arith, low)) (rw same x));
  }
    where
      clean : (k : ℕ) → i ≤ k → k < i + 16 → AtFault end is os (suc k) → ⊥
      clean k p q =
          let far : k + 1 + (i + 15 - k) ≡ i + 16 = omega arith in
          let last : get_or os (k + 1) 0 ≤ get_or os (i + 16) 0 = rw far at (below_last os (k + 1) (i + 15 - k) (λ m u v. g.all_rise refl m (omega arith) (omega arith))) in
          let low : get_or os (k + 1) 0 < end = omega (arith, last, l) in
          fine k (rw add-one at (f.all_rise refl k p q)) (rw add-one at (g.all_rise refl k p q)) (rw add-one at low)

pub nearer_there : {is : List ℕ} {key position : ℕ} → position < length is → get_or is position 0 ≤ key → Near is key position
nearer_there h l = record { within = h; not_above = λ _. l }

pub ruleset nearness = (nearer_there, rules)

-- The loop over blocks
pub record Going (is os : List ℕ) (end key position near : ℕ) : Type 0 where
  pub same_length : length is ≡ length os
  pub reached : InBlocks is os end key position near

pub going_first : {is os : List ℕ} {end : ℕ} (key : ℕ) → length is ≡ length os → Sound is os end 0 → Going is os end key 0 0
going_first key same t = record { same_length = same; reached = record { sound = t; is_near = record { within = t.within; not_above = λ h. h } } }

module _ {is os : List ℕ} {end key position near : ℕ} (t : Going is os end key position near) where
  pub still_near : Near is key near
  still_near = t.reached.is_near

  pub position_within : position ≤ length is
  position_within = omega (arith, t.reached.sound.within)

  module _ (h : 16 < length is - position) where
    pub block_lent : (position + 16 < length is) × (position + 16 < length os)
    block_lent = (omega (arith, h), omega (arith, h, t.same_length))

    pub first_lent : position < length is
    first_lent = omega (arith, h)

    pub next_position : position + 16 ≤ length is
    next_position = omega (arith, h)

    pub fewer_left : length is - (position + 16) < length is - position
    fewer_left = omega (arith, h)

    module _ {told : Bool} (b : SoundOn is os end position told) (e : not told ≡ false) where
      sound_behind : Sound is os end (position + 16)
      sound_behind =
          let told_so = not-false told e in
          sound_on t.reached.sound (omega (arith, h)) (rw told_so at b.indices) (rw told_so at b.offsets) (b.below told_so)

      pub goes_on : {near' : ℕ} → Near is key near' → Going is os end key (position + 16) near'
      goes_on n = record { same_length = t.same_length; reached = record { sound = sound_behind; is_near = n } }

pub ruleset block_loop = (going_first, position_within, block_lent, first_lent, next_position, fewer_left, still_near, goes_on, rules)

-- A single position
one_back : (i : ℕ) → 0 < i → suc (i - 1) ≡ i
one_back i h = omega (arith, h)

module _ {is os : List ℕ} {end i : ℕ} (moved : 0 < i) where
  at_fault : AtFault end is os (suc (i - 1)) → TellsFault is os end i true
  at_fault f = record { fault = λ _. rw (one_back i moved) at f; fine = λ e. false_true (sym e) }

  pub index_stays : get_or is i 0 ≤ get_or is (i - 1) 0 → TellsFault is os end i true
  index_stays a = at_fault (index_stays_lem {i = i - 1} (rw (one_back i moved) a))

  pub offset_stays : get_or os i 0 ≤ get_or os (i - 1) 0 → TellsFault is os end i true
  offset_stays a = at_fault (offset_stays_lem {i = i - 1} (rw (one_back i moved) a))

  pub by_the_end : get_or is (i - 1) 0 < get_or is i 0 → get_or os (i - 1) 0 < get_or os i 0 → {o : ℕ} → o ≡ get_or os i 0 → TellsFault is os end i (leb end o)
  by_the_end a b {o} is_offset = record {
    fault = λ e. not_below {i = i} (omega (arith, is_offset, leb-true end o e));
    fine = λ e f.
        let l : get_or os i 0 < end = omega (arith, is_offset, leb-false end o e) in
        fine {is = is} {os = os} {end = end} (i - 1) (rw (one_back i moved) a) (rw (one_back i moved) b) (rw (one_back i moved) l) (rw (one_back i moved) f);
  }

pub ruleset one_position = (index_stays, offset_stays, by_the_end, rules)

-- The loop over single positions: those before `i` are sound
pub record Single (is os : List ℕ) (end i : ℕ) : Type 0 where
  pub same_length : length is ≡ length os
  pub moved : 0 < i
  pub within : i ≤ length is
  pub sound : Sound is os end (i - 1)

module _ {is os : List ℕ} {end : ℕ} where
  pub single_first : {position : ℕ} → length is ≡ length os → Sound is os end position → Single is os end (position + 1)
  single_first {position} same t =
      let same_place : position + 1 - 1 ≡ position = omega arith in
      record { same_length = same; moved = omega arith; within = omega (arith, t.within); sound = rw same_place t }

  module _ {i : ℕ} (t : Single is os end i) where
    pub single_moved : 0 < i
    single_moved = t.moved

    pub single_ended : length is ≤ i → FaultBehind is os end i
    single_ended h = record { at_fault = λ l. absurd (omega (arith, h, l)); no_fault = λ _ j l f. t.sound.none_at j (omega (arith, h, l)) f }

    module _ (h : i < length is) where
      pub in_both : (i < length is) × (i < length os)
      in_both = (h, omega (arith, h, t.same_length))

      pub single_fault : {told : Bool} → TellsFault is os end i told → told ≡ true → FaultBehind is os end i
      single_fault f e = record { at_fault = λ _. record { within = h; fault = f.fault e; least = λ j l. t.sound.none_at j (omega (arith, l)) }; no_fault = λ l. absurd (omega (arith, h, l)) }

      pub single_on : {told : Bool} → TellsFault is os end i told → told ≡ false → Single is os end (i + 1)
      single_on f e =
          let one = one_back i t.moved in
          let now : Sound is os end i = rw one at (sound_next t.sound (rw one h) (λ x. f.fine e (rw one at x))) in
          let same_place : i + 1 - 1 ≡ i = omega arith in
          record { same_length = t.same_length; moved = omega arith; within = omega (arith, h); sound = rw same_place now }

pub ruleset single_loop = (single_first, single_moved, single_ended, in_both, single_fault, single_on, rules)

-- The loop to the last position that is not above the key
pub record Seeking (is : List ℕ) (near key i : ℕ) : Type 0 where
  pub within : i < length is
  pub not_above : get_or is near 0 ≤ key → get_or is i 0 ≤ key

module _ {is : List ℕ} {near key : ℕ} where
  pub seeking_first : near < length is → Seeking is near key near
  seeking_first h = record { within = h; not_above = λ l. l }

  module _ {i : ℕ} (t : Seeking is near key i) where
    pub seeking_lent : i < length is
    seeking_lent = t.within

    pub seeking_ended : length is ≤ i + 1 → LastFrom is near key i
    seeking_ended h = record { within = t.within; not_above = t.not_above; next_above = λ l. absurd (omega (arith, h, l)) }

    pub seeking_found : key < get_or is (i + 1) 0 → LastFrom is near key i
    seeking_found h = record { within = t.within; not_above = t.not_above; next_above = λ _. h }

    pub seeking_on : i + 1 < length is → get_or is (i + 1) 0 ≤ key → Seeking is near key (i + 1)
    seeking_on h l = record { within = h; not_above = λ _. l }

pub ruleset seeking_loop = (seeking_first, seeking_lent, seeking_ended, seeking_found, seeking_on, rules)

-- THE WHOLE LOOK. In lists without fault the indices rise
module _ {is os : List ℕ} {end : ℕ} (n : NoFault end is os) where
  rising : (i j : ℕ) → i < j → j < length is → get_or is i 0 < get_or is j 0
  rising i zero l h = absurd (omega arith)
  rising i (suc j) l h =
      by_test (ltb (get_or is j 0) (get_or is (suc j) 0))
      (λ e. by_test (ltb i j)
      (λ m. omega (arith, rising i j (ltb-true i j m) (omega arith), ltb-true (get_or is j 0) (get_or is (suc j) 0) e))
      (λ m. let same : i ≡ j = omega (arith, ltb-false i j m) in rw same (ltb-true (get_or is j 0) (get_or is (suc j) 0) e)))
      (λ e. absurd (n (suc j) h (index_stays_lem (ltb-false (get_or is j 0) (get_or is (suc j) 0) e))))

  below_end : (i : ℕ) → i < length is → get_or os i 0 < end
  below_end i h =
      by_test (ltb (get_or os i 0) end)
      (λ e. ltb-true (get_or os i 0) end e)
      (λ e. absurd (n i h (not_below (ltb-false (get_or os i 0) end e))))

  all_above : (key : ℕ) → key < get_or is 0 0 → AllAbove key is
  all_above key l i h =
      by_test (ltb 0 i)
      (λ e. omega (arith, rising 0 i (ltb-true 0 i e) h, l))
      (λ e. let same : i ≡ 0 = omega (arith, ltb-false 0 i e) in rw same l)

  last_not_above : {near key r : ℕ} → LastFrom is near key r → get_or is near 0 ≤ key → LastNotAbove key is r
  last_not_above {key = key} {r = r} t l = record {
    within = t.within;
    not_above_lem = t.not_above l;
    last = λ j m h.
        let next : key < get_or is (r + 1) 0 = t.next_above (omega (arith, m, h)) in
        by_test (ltb (r + 1) j)
        (λ e. omega (arith, rising (r + 1) j (ltb-true (r + 1) j e) h, next))
        (λ e. let same : j ≡ r + 1 = omega (arith, m, ltb-false (r + 1) j e) in rw same next);
  }

module _ {is os : List ℕ} {end key : ℕ} where
  pub looks_empty : length is ≡ 0 → Looks is os end key (Ok None)
  looks_empty h = record { finds = (λ i l f. absurd (omega (arith, h, l)), λ i l. absurd (omega (arith, h, l))) }

  pub looks_first : (length is ≡ 0 → ⊥) → {o : ℕ} → o ≡ get_or os 0 0 → end ≤ o → Looks is os end key (Err 0)
  looks_first n e l = record { finds = record { within = omega (arith, n); fault = not_below {i = 0} (omega (arith, e, l)); least = λ j m f. absurd (omega arith) } }

  module _ {fault : ℕ} (b : FaultBehind is os end fault) where
    pub looks_fault : fault < length is → Looks is os end key (Err fault)
    looks_fault h = record { finds = b.at_fault h }

    module _ (h : length is ≤ fault) where
      pub looks_above : key < get_or is 0 0 → Looks is os end key (Ok None)
      looks_above l = let n = b.no_fault h in record { finds = (n, all_above n key l) }

      pub looks_at : {position near start : ℕ} → get_or is 0 0 ≤ key → InBlocks is os end key position near → LastFrom is near key start → Looks is os end key (Ok (Some (get_or os start 0)))
      looks_at {start = start} l t s =
          let n = b.no_fault h in
          record { finds = (n, record { position = start; last = last_not_above n s (t.is_near.not_above l); is_offset = refl; below = below_end n start s.within }) }

pub some_lent : (is os : List ℕ) → length is ≡ length os → (length is ≡ 0 → ⊥) → 0 < length os
some_lent is os same n = omega (arith, same, n)

pub start_lent : (is os : List ℕ) {near key start : ℕ} → length is ≡ length os → LastFrom is near key start → start < length os
start_lent is os same s = omega (arith, same, s.within)

pub near_within : {is os : List ℕ} {end key position near : ℕ} → InBlocks is os end key position near → near < length is
near_within t = t.is_near.within

pub position_sound : {is os : List ℕ} {end key position near : ℕ} → InBlocks is os end key position near → Sound is os end position
position_sound t = t.sound

pub ruleset looks = (sound_first, looks_empty, looks_first, some_lent, looks_fault, looks_above, looks_at, start_lent, near_within, position_sound, rules)
