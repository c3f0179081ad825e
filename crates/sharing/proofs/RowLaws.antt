-- What the walks over marks and blocks give, one law for each way through them.
use Prim.Native.Nat.{ℕ, zero, suc, ◌+◌, ◌-◌, ◌/◌, ◌≤◌, ◌<◌}
use mathlib.Core.Bool.{Bool, true, false, cond, ◌&&◌}
use mathlib.Core.List.{List, [], ◌∷◌}
use mathlib.Core.Path.{◌≡◌, refl, sym, ap, ap₂, ◌∙◌}
use native.Mathlib.Numerals.{add-one}
use native.Mathlib.Omega.{arith}
use borrow.Author.Rules.{rules}
use borrow.Author.Tests.{eq-eqb, ne_eqb}
use lib.Dec.{eqb}
use lib.ListN.{length, take, drop, get_or}
use lib.Seq.{drop-cons}
use Rattle.format.specs.Bytes.{same}
use Rattle.format.specs.Laws.Outcomes.{by_test}
use Rattle.sharing.specs.Arrays.{marks_from}
use Rattle.sharing.specs.Blocks.{need, are_all_right}
use Rattle.sharing.specs.Laws.Arrays.{marks_cons}
use Rattle.sharing.specs.Laws.Bytes.{blocks_cons, blocks_end}
use Rattle.sharing.specs.Marks.{Walkable, RowRight}
use Rattle.sharing.specs.Table.{Mark, blocks, rows_right}

-- One row

module _ (us ns s : List ℕ) (at : ℕ) where
  pub row_none : get_or us at 0 ≡ 0 → RowRight us ns s at true
  row_none e = record { is = rw (eq-eqb (get_or us at 0) 0 e) refl }

  pub row_some : {b : Bool} {k n : ℕ} → (get_or us at 0 ≡ 0 → ⊥) → n ≡ get_or ns at 0 → k ≡ need n → b ≡ are_all_right k (drop at (blocks s)) → RowRight us ns s at b
  row_some f d e g = record { is = g ∙ rw (e, d, ne_eqb (get_or us at 0) 0 f) refl }

pub ruleset row_checks = (row_none, row_some, rules)

-- All rows

pub record Walked (us ns s : List ℕ) (b : ℕ) : Type 0 where
  pub same : rows_right (marks_from us ns) (blocks s) ≡ rows_right (drop b (marks_from us ns)) (drop b (blocks s))

pub walked_none : (us ns s : List ℕ) → Walked us ns s 0
walked_none us ns s = record { same = refl }

row_test : (m : Mark) (ms : List Mark) (k : List ℕ) (ks : List (List ℕ)) → rows_right (m ∷ ms) (k ∷ ks) ≡ (cond (eqb m.users 0) true (are_all_right (need m.size) (k ∷ ks)) && rows_right ms ks)
unfolding rows_right
row_test m ms k ks = by_test (eqb m.users 0) (λ t. rw t) (λ t. rw t)

rows_end : (ms : List Mark) → rows_right ms [] ≡ true
unfolding rows_right
rows_end [] = refl
rows_end (m ∷ ms) = refl

module _ {us ns s : List ℕ} {b : ℕ} (t : Walked us ns s b) (w : Walkable us ns s) where
  at_row : b < length s / 512 → rows_right (marks_from us ns) (blocks s) ≡ (cond (eqb (get_or us b 0) 0) true (are_all_right (need (get_or ns b 0)) (drop b (blocks s))) && rows_right (drop (suc b) (marks_from us ns)) (drop (suc b) (blocks s)))
  at_row h =
      let m = marks_cons us ns b (w.users_long ∙ sym w.sizes_long) (omega (arith, w.users_long, w.few)) in
      let k = blocks_cons s b h in
      t.same ∙ ap₂ rows_right m k ∙ row_test _ (drop (suc b) (marks_from us ns)) _ (drop (suc b) (blocks s)) ∙ rw (← k) refl

  pub walked_more : {r : Bool} → b < length s / 512 → RowRight us ns s b r → r ≡ true → Walked us ns s (b + 1)
  walked_more h x e = record { same = at_row h ∙ rw (← x.is, e, add-one b) refl }

  pub walked_wrong : {r : Bool} → b < length s / 512 → RowRight us ns s b r → r ≡ false → false ≡ rows_right (marks_from us ns) (blocks s)
  walked_wrong h x e = sym (at_row h ∙ rw (← x.is, e) refl)

pub walked_all : {us ns s : List ℕ} {b : ℕ} → Walked us ns s b → length s / 512 ≤ b → true ≡ rows_right (marks_from us ns) (blocks s)
walked_all {us} {ns} {s} {b} t h = sym (t.same ∙ ap (rows_right (drop b (marks_from us ns))) (blocks_end s b h) ∙ rows_end (drop b (marks_from us ns)))

pub ruleset walks = (walked_none, walked_more, walked_wrong, walked_all, rules)

-- Bytes compared

pub record Compared (s : List ℕ) (at : ℕ) (q : List ℕ) (from count k : ℕ) : Type 0 where
  pub near : k ≤ count
  pub is : same (take count (drop at s)) (take count (drop from q)) ≡ same (take (count - k) (drop (at + k) s)) (take (count - k) (drop (from + k) q))

pub compared_none : (s : List ℕ) (at : ℕ) (q : List ℕ) (from count : ℕ) → Compared s at q from count 0
compared_none s at q from count =
    let x : at + 0 ≡ at = omega arith in
    let y : from + 0 ≡ from = omega arith in
    let z : count - 0 ≡ count = omega arith in
    record { near = omega arith; is = rw (x, y, z) refl }

one_more : (n : ℕ) (s q : List ℕ) (i j : ℕ) → 0 < n → i < length s → j < length q → same (take n (drop i s)) (take n (drop j q)) ≡ (eqb (get_or s i 0) (get_or q j 0) && same (take (n - 1) (drop (suc i) s)) (take (n - 1) (drop (suc j) q)))
unfolding same
one_more zero s q i j h l m = absurd (omega arith)
one_more (suc n) s q i j h l m = let z : suc n - 1 ≡ n = omega arith in rw (drop-cons s i 0 l, drop-cons q j 0 m, z)

module _ {s : List ℕ} {at : ℕ} {q : List ℕ} {from count k : ℕ} (t : Compared s at q from count k) (h : k < count) (i : at + count ≤ length s) (j : from + count ≤ length q) where
  next_two : same (take count (drop at s)) (take count (drop from q)) ≡ (eqb (get_or s (at + k) 0) (get_or q (from + k) 0) && same (take (count - (k + 1)) (drop (at + (k + 1)) s)) (take (count - (k + 1)) (drop (from + (k + 1)) q)))
  next_two =
      let x : at + (k + 1) ≡ suc (at + k) = omega arith in
      let y : from + (k + 1) ≡ suc (from + k) = omega arith in
      let z : count - (k + 1) ≡ count - k - 1 = omega arith in
      t.is ∙ one_more (count - k) s q (at + k) (from + k) (omega arith) (omega arith) (omega arith) ∙ rw (x, y, z) refl

  pub compared_more : get_or s (at + k) 0 ≡ get_or q (from + k) 0 → Compared s at q from count (k + 1)
  compared_more e = record { near = omega arith; is = next_two ∙ rw (eq-eqb (get_or s (at + k) 0) (get_or q (from + k) 0) e) refl }

  pub compared_other : (get_or s (at + k) 0 ≡ get_or q (from + k) 0 → ⊥) → false ≡ same (take count (drop at s)) (take count (drop from q))
  compared_other e = sym (next_two ∙ rw (ne_eqb (get_or s (at + k) 0) (get_or q (from + k) 0) e) refl)

pub compared_all : {s : List ℕ} {at : ℕ} {q : List ℕ} {from count k : ℕ} → Compared s at q from count k → count ≤ k → true ≡ same (take count (drop at s)) (take count (drop from q))
unfolding same
compared_all {count = count} {k = k} t h = let z : count - k ≡ 0 = omega arith in sym (t.is ∙ rw z refl)

pub ruleset compares = (compared_none, compared_more, compared_other, compared_all, rules)
