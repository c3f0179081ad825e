-- A payload in the store, block by block.
use Prim.Native.Nat.{ℕ, zero, suc, ◌+◌, ◌-◌, ◌*◌, ◌/◌, ◌≤◌, ◌<◌}
use mathlib.Core.List.{List, ◌++◌}
use mathlib.Core.Path.{◌≡◌, refl, ap, ◌∙◌}
use native.Mathlib.Omega.{arith}
use lib.ListN.{length, take, drop, length-drop, length-append}
use lib.Seq.{length-take-le, take-take, take-append-add, take-append-le}
use Rattle.sharing.specs.Blocks.{need, extra, bodies, gather}
use Rattle.sharing.specs.Laws.Bytes.{blocks_cons}
use Rattle.sharing.specs.Table.{blocks}

-- what a block keeps of a payload
abbrev pub piece : List ℕ → ℕ → List ℕ
piece s b = take 508 (drop (b * 512) s)

-- what stands of a payload of n bytes from its block k on
unfoldable pub rest_of : List ℕ → (first n k : ℕ) → List ℕ
rest_of s first n k = take (n - k * 508) (bodies (need n - k) (drop (first + k) (blocks s)))

module _ (s : List ℕ) where
  pub piece_long : (b : ℕ) → b < length s / 512 → length (piece s b) ≡ 508
  piece_long b h = length-take-le 508 (drop (b * 512) s) (rw length-drop (omega arith))

  bodies_cons : (b c : ℕ) → b < length s / 512 → bodies (suc c) (drop b (blocks s)) ≡ piece s b ++ bodies c (drop (suc b) (blocks s))
  unfolding bodies
  bodies_cons b c h = rw (blocks_cons s b h) (ap (λ (l : List ℕ). l ++ bodies c (drop (suc b) (blocks s))) (take-take 508 512 (drop (b * 512) s) (omega arith)))

  bodies_long : (c b : ℕ) → b + c ≤ length s / 512 → length (bodies c (drop b (blocks s))) ≡ c * 508
  bodies_long zero b h = unfold bodies in refl
  bodies_long (suc c) b h = ap length (bodies_cons b c (omega arith)) ∙ length-append (piece s b) (bodies c (drop (suc b) (blocks s))) ∙ omega (arith, piece_long b (omega arith), bodies_long c (suc b) (omega arith))

  module _ (first n : ℕ) (fits : first + need n ≤ length s / 512) where
    pub gather_long : length (gather n (drop first (blocks s))) ≡ n
    unfolding gather
    gather_long =
        let l = bodies_long (need n) first fits in
        let e : n ≤ need n * 508 = unfold need extra in omega arith in
        length-take-le n (bodies (need n) (drop first (blocks s))) (omega arith)

    pub rest_all : gather n (drop first (blocks s)) ≡ rest_of s first n 0
    unfolding gather rest_of
    rest_all =
        let x : first + 0 ≡ first = omega arith in
        let y : need n - 0 ≡ need n = omega arith in
        let z : n - 0 * 508 ≡ n = omega arith in
        rw (x, y, z) refl

    pub rest_more : (k : ℕ) → 508 < n - k * 508 → rest_of s first n k ≡ piece s (first + k) ++ rest_of s first n (suc k)
    unfolding rest_of
    rest_more k h =
        let m : suc k < need n = unfold need extra in omega arith in
        let p : first + k < length s / 512 = omega arith in
        let x : need n - k ≡ suc (need n - suc k) = omega arith in
        let l = piece_long (first + k) p in
        let y : n - k * 508 ≡ length (piece s (first + k)) + (n - suc k * 508) = omega arith in
        let z : first + suc k ≡ suc (first + k) = omega arith in
        ap (λ (c : ℕ). take (n - k * 508) (bodies c (drop (first + k) (blocks s)))) x
        ∙ ap (take (n - k * 508)) (bodies_cons (first + k) (need n - suc k) p)
        ∙ ap (λ (i : ℕ). take i (piece s (first + k) ++ bodies (need n - suc k) (drop (suc (first + k)) (blocks s)))) y
        ∙ take-append-add (piece s (first + k)) (bodies (need n - suc k) (drop (suc (first + k)) (blocks s))) (n - suc k * 508)
        ∙ rw z refl

    pub rest_last : (k : ℕ) → k < need n → n - k * 508 ≤ 508 → rest_of s first n k ≡ take (n - k * 508) (drop ((first + k) * 512) s)
    unfolding rest_of
    rest_last k m h =
        let p : first + k < length s / 512 = omega arith in
        let x : need n - k ≡ suc (need n - suc k) = omega arith in
        let l = piece_long (first + k) p in
        ap (λ (c : ℕ). take (n - k * 508) (bodies c (drop (first + k) (blocks s)))) x
        ∙ ap (take (n - k * 508)) (bodies_cons (first + k) (need n - suc k) p)
        ∙ take-append-le (n - k * 508) (piece s (first + k)) (bodies (need n - suc k) (drop (suc (first + k)) (blocks s))) (omega arith)
        ∙ take-take (n - k * 508) 508 (drop ((first + k) * 512) s) h

-- blocks done so far are fewer than all, and no more than the payload has
pub need_next : (n k : ℕ) → 508 < n - k * 508 → suc k < need n
unfolding need extra
need_next n k h = omega arith

pub need_some : (n : ℕ) → 0 < need n
unfolding need
need_some n = omega arith

pub need_inside : (n k : ℕ) → k < need n → k * 508 ≤ n
unfolding need extra
need_inside n k h = omega arith

pub need_last : (n k : ℕ) → k < need n → n - k * 508 ≤ 508 → suc k ≡ need n
unfolding need extra
need_last n k h l = omega arith
