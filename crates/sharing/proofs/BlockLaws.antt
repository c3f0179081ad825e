-- What the functions on blocks give, one law for each way through them.
use Prim.Native.Nat.{ℕ, zero, suc, ◌+◌, ◌-◌, ◌*◌, ◌/◌, ◌%◌, ◌≤◌, ◌<◌}
use mathlib.Core.Bool.{Bool, true, false}
use mathlib.Core.List.{List, [], ◌∷◌, ◌++◌}
use mathlib.Core.Path.{◌≡◌, refl, sym, ap, ◌∙◌}
use native.Mathlib.Numerals.{add-one}
use native.Mathlib.Omega.{arith}
use borrow.Author.Rules.{rules}
use borrow.Author.Tests.{ne_eqb, eqb-true, eqb-false}
use lib.Dec.{eqb}
use lib.ListN.{length, take, drop, get_or, length-drop}
use lib.Seq.{drop_at, drop-cons, drop-drop, take-add, take-take, length-take-le}
use Rattle.format.specs.Bytes.{same}
use Rattle.format.specs.Laws.Bytes.{same_self, same_true}
use Rattle.format.specs.Laws.Outcomes.{by_test}
use Rattle.sharing.specs.Blocks.{words, little_endian, check, right, need, extra, are_all_right}
use Rattle.sharing.specs.Laws.Bytes.{blocks_cons, blocks_end, blocks_length}
use Rattle.sharing.specs.Table.{blocks}
use Rattle.sharing.specs.Words.{Byte, WordAt, RightAt}

-- How many blocks

pub need_empty : (size : ℕ) → size ≡ 0 → 1 ≡ need size
unfolding need extra
need_empty size e = omega arith

pub need_more : (size : ℕ) → (size ≡ 0 → ⊥) → (size - 1) / 508 + 1 ≡ need size
unfolding need extra
need_more size h = add-one ((size - 1) / 508)

pub ruleset needed = (need_empty, need_more, rules)

-- A word

four : (s : List ℕ) (at : ℕ) → at + 4 ≤ length s → take 4 (drop at s) ≡ get_or s at 0 ∷ get_or s (at + 1) 0 ∷ get_or s (at + 2) 0 ∷ get_or s (at + 3) 0 ∷ []
four s at h =
    let one : at + 1 ≡ suc at = omega arith in
    let two : at + 2 ≡ suc (suc at) = omega arith in
    let three : at + 3 ≡ suc (suc (suc at)) = omega arith in
    rw (one, two, three, drop-cons s at 0 (omega arith), drop-cons s (suc at) 0 (omega arith), drop-cons s (suc (suc at)) 0 (omega arith), drop-cons s (suc (suc (suc at))) 0 (omega arith))

last_of : (r q : ℕ) → r < 256 → (r + 256 * q) % 256 ≡ r
last_of r q h = omega arith

above_8 : (r q : ℕ) → r < 256 → (r + 256 * q) / 256 ≡ q
above_8 r q h = omega arith

above_16 : (r q : ℕ) → r < 65536 → (r + 65536 * q) / 65536 ≡ q
above_16 r q h = omega arith

above_24 : (r q : ℕ) → r < 16777216 → (r + 16777216 * q) / 16777216 ≡ q
above_24 r q h = omega arith

spelled : (a b c d : ℕ) → a < 256 → b < 256 → c < 256 → d < 256 → a ∷ b ∷ c ∷ d ∷ [] ≡ little_endian (a + 256 * b + 65536 * c + 16777216 * d)
unfolding little_endian
spelled a b c d i j k l =
    let n = a + 256 * b + 65536 * c + 16777216 * d in
    let x : n ≡ a + 256 * (b + 256 * (c + 256 * d)) = omega arith in
    let y : n ≡ a + 256 * b + 65536 * (c + 256 * d) = omega arith in
    let z : n ≡ a + 256 * b + 65536 * c + 16777216 * (d + 256 * 0) = omega arith in
    let p : n % 256 ≡ a = ap (λ (m : ℕ). m % 256) x ∙ last_of a (b + 256 * (c + 256 * d)) i in
    let q : n / 256 % 256 ≡ b = ap (λ (m : ℕ). m / 256 % 256) x ∙ ap (λ (m : ℕ). m % 256) (above_8 a (b + 256 * (c + 256 * d)) i) ∙ last_of b (c + 256 * d) j in
    let r : n / 65536 % 256 ≡ c = ap (λ (m : ℕ). m / 65536 % 256) y ∙ ap (λ (m : ℕ). m % 256) (above_16 (a + 256 * b) (c + 256 * d) (omega arith)) ∙ last_of c d k in
    let t : n / 16777216 % 256 ≡ d = ap (λ (m : ℕ). m / 16777216 % 256) z ∙ ap (λ (m : ℕ). m % 256) (above_24 (a + 256 * b + 65536 * c) (d + 256 * 0) (omega arith)) ∙ last_of d 0 l in
    rw (p, q, r, t)

module _ {s : List ℕ} {at a b c d : ℕ} where
  pub word_at : at + 4 ≤ length s → Byte (get_or s at 0) a → Byte (get_or s (at + 1) 0) b → Byte (get_or s (at + 2) 0) c → Byte (get_or s (at + 3) 0) d → WordAt s at (a + 256 * b + 65536 * c + 16777216 * d)
  word_at h i j k l = record { stands = four s at h ∙ rw (← i.is, ← j.is, ← k.is, ← l.is) (spelled a b c d i.small j.small k.small l.small); small = omega (arith, i.small, j.small, k.small, l.small) }

pub ruleset worded = (word_at, rules)

-- The sum of the words

words_append : (j : ℕ) (x y : List ℕ) → length x ≡ j * 4 → words (x ++ y) ≡ words x + words y
unfolding words
words_append zero [] y e = omega arith
words_append zero (a ∷ x) y e = absurd (omega arith)
words_append (suc j) [] y e = absurd (omega arith)
words_append (suc j) (a ∷ []) y e = absurd (omega arith)
words_append (suc j) (a ∷ b ∷ []) y e = absurd (omega arith)
words_append (suc j) (a ∷ b ∷ c ∷ []) y e = absurd (omega arith)
words_append (suc j) (a ∷ b ∷ c ∷ d ∷ x) y e = omega (arith, words_append j x y (omega arith))

-- a word is what its four bytes spell
words_spelled : (n : ℕ) → n < 4294967296 → words (little_endian n) ≡ n
unfolding words
words_spelled n h =
    let x = n / 256 in
    let y = x / 256 in
    let top : y / 256 < 256 = omega arith in
    let e : n % 256 + 256 * (x % 256) + 65536 * (y % 256) + 16777216 * (y / 256) ≡ n = omega arith in
    ap (λ (m : ℕ). words (little_endian m)) (sym e) ∙ ap words (sym (spelled (n % 256) (x % 256) (y % 256) (y / 256) (omega arith) (omega arith) (omega arith) top)) ∙ omega (arith, e)

pub record Summed (s : List ℕ) (at k total : ℕ) : Type 0 where
  pub inside : k ≤ 127
  pub is : total ≡ words (take (k * 4) (drop at s))
  pub small : total ≤ k * 4294967296

pub summed_none : (s : List ℕ) (at : ℕ) → Summed s at 0 0
unfolding words
summed_none s at = record { inside = omega arith; is = refl; small = omega arith }

module _ {s : List ℕ} {at k total : ℕ} (t : Summed s at k total) where
  pub summed_more : {w : ℕ} → k < 127 → at + 508 ≤ length s → WordAt s (at + 4 * k) w → Summed s at (k + 1) (total + w)
  summed_more {w} l h x =
      let z : (k + 1) * 4 ≡ k * 4 + 4 = omega arith in
      let y : at + 4 * k ≡ at + k * 4 = omega arith in
      let n : length (take (k * 4) (drop at s)) ≡ k * 4 = length-take-le (k * 4) (drop at s) (rw length-drop (omega arith)) in
      let v : words (take 4 (drop (k * 4) (drop at s))) ≡ w = rw (drop-drop (k * 4) at s, ← y, x.stands) (words_spelled w x.small) in
      record {
        inside = omega arith;
        is = rw (z, take-add (k * 4) 4 (drop at s), words_append k (take (k * 4) (drop at s)) (take 4 (drop (k * 4) (drop at s))) n, v, t.is) refl;
        small = omega (arith, t.small, x.small);
      }

  pub summed_room : {w : ℕ} → WordAt s (at + 4 * k) w → total + w < 18446744073709551616
  summed_room x = omega (arith, t.small, t.inside, x.small)

  pub summed_all : 127 ≤ k → total ≡ words (take 508 (drop at s))
  summed_all h = let z : k * 4 ≡ 508 = omega (arith, t.inside) in t.is ∙ rw z refl

pub ruleset sums = (summed_none, summed_more, summed_room, summed_all, rules)

-- The check

-- two words are equal where their bytes are
spelled_same : (a b : ℕ) → a < 4294967296 → b < 4294967296 → eqb a b ≡ same (little_endian a) (little_endian b)
spelled_same a b h k = by_test (eqb a b)
    (λ t. let e : a ≡ b = eqb-true a b t in t ∙ sym (rw e (same_self (little_endian b))))
    (λ t. by_test (same (little_endian a) (little_endian b))
    (λ u. absurd (eqb-false a b t (sym (words_spelled a h) ∙ ap words (same_true (little_endian a) (little_endian b) u) ∙ words_spelled b k)))
    (λ u. t ∙ sym u))

pub right_is : {s : List ℕ} (at : ℕ) {w n : ℕ} → at + 512 ≤ length s → WordAt s (at + 508) w → n ≡ words (take 508 (drop at s)) → RightAt s at (eqb w (n % 4294967296))
unfolding right check
right_is {s} at {w} {n} h x e =
    let front : take 508 (take 512 (drop at s)) ≡ take 508 (drop at s) = take-take 508 512 (drop at s) (omega arith) in
    let long : 508 ≤ length (drop at s) = rw length-drop (omega arith) in
    let back : drop 508 (take 512 (drop at s)) ≡ little_endian w = ap (drop 508) (take-add 508 4 (drop at s)) ∙ drop_at (take 508 (drop at s)) (take 4 (drop 508 (drop at s))) 508 (length-take-le 508 (drop at s) long) ∙ ap (take 4) (drop-drop 508 at s) ∙ x.stands in
    record { is = rw (front, back, ← e) (spelled_same w (n % 4294967296) x.small (omega arith)) }

pub ruleset rights = (right_is, rules)

-- Blocks in a row

-- with too few of them
too_few : (count : ℕ) (bs : List (List ℕ)) → length bs < count → false ≡ are_all_right count bs
unfolding are_all_right
too_few zero bs h = absurd (omega arith)
too_few (suc count) [] h = refl
too_few (suc count) (b ∷ bs) h = by_test (right b) (λ t. rw t (too_few count bs (omega arith))) (λ t. rw t)

pub none_there : (s : List ℕ) (first count : ℕ) → length s / 512 < first → eqb count 0 ≡ are_all_right count (drop first (blocks s))
unfolding are_all_right
none_there s first zero h = refl
none_there s first (suc count) h = rw (blocks_end s first (omega arith)) (ne_eqb (suc count) 0 (λ e. omega arith))

pub few_there : (s : List ℕ) (first count : ℕ) → length s / 512 - first < count → false ≡ are_all_right count (drop first (blocks s))
few_there s first count h = too_few count (drop first (blocks s)) (omega (arith, length-drop first (blocks s), blocks_length s))

pub ruleset enough = (none_there, few_there, rules)

pub record Checked (s : List ℕ) (first count k : ℕ) : Type 0 where
  pub near : k ≤ count
  pub same : are_all_right count (drop first (blocks s)) ≡ are_all_right (count - k) (drop (first + k) (blocks s))

pub checked_none : (s : List ℕ) (first count : ℕ) → Checked s first count 0
checked_none s first count =
    let z : first + 0 ≡ first = omega arith in
    let y : count - 0 ≡ count = omega arith in
    record { near = omega arith; same = rw (z, y) refl }

right_more : (s : List ℕ) (at left : ℕ) → at < length s / 512 → right (take 512 (drop (at * 512) s)) ≡ true → 0 < left → are_all_right left (drop at (blocks s)) ≡ are_all_right (left - 1) (drop (suc at) (blocks s))
unfolding are_all_right
right_more s at zero l r h = absurd (omega arith)
right_more s at (suc left) l r h = let z : suc left - 1 ≡ left = omega arith in rw (blocks_cons s at l, r, z)

right_wrong : (s : List ℕ) (at left : ℕ) → at < length s / 512 → right (take 512 (drop (at * 512) s)) ≡ false → 0 < left → false ≡ are_all_right left (drop at (blocks s))
unfolding are_all_right
right_wrong s at zero l r h = absurd (omega arith)
right_wrong s at (suc left) l r h = rw (blocks_cons s at l, r)

module _ {s : List ℕ} {first count k : ℕ} (t : Checked s first count k) (l : k < count) (fits : first + count ≤ length s / 512) where
  pub checked_more : {b : Bool} → RightAt s ((first + k) * 512) b → b ≡ true → Checked s first count (k + 1)
  checked_more {b} e r =
      let z : count - k - 1 ≡ count - (k + 1) = omega arith in
      let y : suc (first + k) ≡ first + (k + 1) = omega arith in
      record { near = omega arith; same = t.same ∙ right_more s (first + k) (count - k) (omega arith) (sym e.is ∙ r) (omega arith) ∙ rw (z, y) refl }

  pub checked_wrong : {b : Bool} → RightAt s ((first + k) * 512) b → b ≡ false → false ≡ are_all_right count (drop first (blocks s))
  checked_wrong {b} e r = right_wrong s (first + k) (count - k) (omega arith) (sym e.is ∙ r) (omega arith) ∙ sym t.same

pub checked_all : {s : List ℕ} {first count k : ℕ} → Checked s first count k → count ≤ k → true ≡ are_all_right count (drop first (blocks s))
unfolding are_all_right
checked_all {s} {first} {count} {k} t h = let z : count - k ≡ 0 = omega arith in sym (t.same ∙ rw z refl)

pub ruleset checks = (checked_none, checked_more, checked_wrong, checked_all, rules)
