-- Comparing a name byte by byte.
use Prim.Native.Nat.{ℕ, suc, ◌+◌, ◌-◌, ◌≤◌, ◌<◌}
use mathlib.Core.Bool.{Bool, true, false, ◌&&◌}
use mathlib.Core.List.{List, [], ◌∷◌, ◌++◌}
use mathlib.Core.Path.{◌≡◌, refl, sym, ap, ◌∙◌}
use native.Mathlib.Nat.{add-zero}
use native.Mathlib.Numerals.{add-one}
use native.Mathlib.Omega.{arith}
use borrow.Author.Rules.{rules}
use borrow.Author.Tests.{eq-eqb, ne_eqb}
use lib.Dec.{eqb}
use lib.ListN.{length, get_or, take, drop, length-append}
use lib.Seq.{slice, slice-cons, slice_empty, length-slice, drop-cons, drop-length, drop-drop, take-take}
use Rattle.format.specs.Bytes.{same}
use Rattle.format.specs.Laws.Outcomes.{by_test, and_false}
use Rattle.reading.specs.Cursors.{Inside, left}
use Rattle.reading.specs.declared.Cursor.{Cursor}
use Rattle.reading.proofs.PartSteps.{take_drop}

-- lists of other lengths are not the same
lengths_differ : (x y : List ℕ) → (length x ≡ length y → ⊥) → same x y ≡ false
unfolding same
lengths_differ [] [] n = absurd (n refl)
lengths_differ [] (b ∷ y) n = refl
lengths_differ (a ∷ x) [] n = refl
lengths_differ (a ∷ x) (b ∷ y) n = by_test (eqb a b) (λ t. rw t (lengths_differ x y (λ e. n (ap suc e)))) (λ t. rw t)

-- the loop: up to `k` they are the same, and what follows decides
pub record Turn (s name : List ℕ) (at k : ℕ) : Type 0 where
  pub far : k ≤ length name
  pub fits : at + length name ≤ length s
  pub rest : same name (slice at (at + length name) s) ≡ same (drop k name) (slice (at + k) (at + length name) s)

there : {s : List ℕ} {part : Cursor} (name : List ℕ) → Inside s part → part.end - part.at ≡ length name → left s part ≡ slice part.at (part.at + length name) s
there {s} {part} name i e = let far : part.end ≡ part.at + length name = omega (arith, i.ahead) in ap (λ n. slice part.at n s) far

module _ (s : List ℕ) (part : Cursor) (name : List ℕ) where
  pub other_length : Inside s part → (part.end - part.at ≡ length name → ⊥) → false ≡ same name (left s part)
  other_length i n = sym (lengths_differ name (left s part) (λ e. n (sym (e ∙ length-slice part.at part.end s i.within))))

  pub compare : Inside s part → part.end - part.at ≡ length name → Turn s name part.at 0
  compare i e = record { far = omega arith; fits = omega (arith, i.ahead, i.within); rest = rw add-zero }

module _ {s name : List ℕ} {at k : ℕ} (t : Turn s name at k) (h : k < length name) where
  first_bytes : same (drop k name) (slice (at + k) (at + length name) s) ≡ same (get_or name k 0 ∷ drop (suc k) name) (get_or s (at + k) 0 ∷ slice (suc (at + k)) (at + length name) s)
  first_bytes = let f = t.fits in rw (drop-cons name k 0 h, slice-cons (at + k) (at + length name) s 0 (omega arith) f)

  differs : (get_or s (at + k) 0 ≡ get_or name k 0 → ⊥) → false ≡ same name (slice at (at + length name) s)
  unfolding same
  differs n = sym (t.rest ∙ first_bytes ∙ rw (ne_eqb (get_or name k 0) (get_or s (at + k) 0) (λ e. n (sym e))))

  pub byte_same : get_or s (at + k) 0 ≡ get_or name k 0 → Turn s name at (k + 1)
  unfolding same
  byte_same e =
      let next : at + (k + 1) ≡ suc (at + k) = omega arith in
      record { far = omega arith; fits = t.fits; rest = t.rest ∙ first_bytes ∙ rw (eq-eqb (get_or name k 0) (get_or s (at + k) 0) (sym e), next, add-one) }

module _ {s : List ℕ} {part : Cursor} {name : List ℕ} {k : ℕ} (t : Turn s name part.at k) (i : Inside s part) (l : part.end - part.at ≡ length name) where
  pub byte_differs : k < length name → (get_or s (part.at + k) 0 ≡ get_or name k 0 → ⊥) → false ≡ same name (left s part)
  byte_differs h n = rw (there name i l) (differs t h n)

  pub all_same : length name ≤ k → true ≡ same name (left s part)
  unfolding same
  all_same h =
      let end : k ≡ length name = omega (arith, t.far) in
      rw (there name i l) (sym (t.rest ∙ rw (end, drop-length, slice_empty)))

pub ruleset called_turns = (other_length, compare, byte_differs, byte_same, all_same, rules)

-- Two slices joined: the part's front is compared with the one, its rest with the other
same_joined : (x y bs : List ℕ) → length x ≤ length bs → same (x ++ y) bs ≡ (same x (take (length x) bs) && same y (drop (length x) bs))
unfolding same
same_joined [] y bs l = refl
same_joined (a ∷ x) y [] l = absurd (omega arith)
same_joined (a ∷ x) y (b ∷ bs) l = by_test (eqb a b) (λ t. rw t (same_joined x y bs (omega arith))) (λ t. rw t)

module _ (s : List ℕ) (part : Cursor) (front rest : List ℕ) (i : Inside s part) where
  pub other_sum : (part.end - part.at ≡ length front + length rest → ⊥) → false ≡ same (front ++ rest) (left s part)
  other_sum n = other_length s part (front ++ rest) i (λ e. n (e ∙ length-append front rest))

  module _ (h : part.end - part.at ≡ length front + length rest) where
    front_is : take (length front) (left s part) ≡ slice part.at (part.at + length front) s
    front_is = take_drop part.at (length front) (take part.end s) ∙ ap (drop part.at) (take-take (part.at + length front) part.end s (omega (arith, i.ahead)))

    both : same (front ++ rest) (left s part) ≡ (same front (slice part.at (part.at + length front) s) && same rest (slice (part.at + length front) part.end s))
    both = same_joined front rest (left s part) (omega (arith, length-slice part.at part.end s i.within)) ∙ rw (front_is, drop-drop)

    module _ {b : Bool} (e : b ≡ same rest (slice (part.at + length front) part.end s)) where
      pub rest_differs : b ≡ false → false ≡ same (front ++ rest) (left s part)
      rest_differs t = sym (both ∙ rw (← e, t) (and_false (same front (slice part.at (part.at + length front) s))))

      pub front_decides : {r : Bool} → b ≡ true → r ≡ same front (slice part.at (part.at + length front) s) → r ≡ same (front ++ rest) (left s part)
      front_decides t q = q ∙ sym (both ∙ rw (← e, t) (with_true (same front (slice part.at (part.at + length front) s))))
        where
          with_true : (b : Bool) → (b && true) ≡ b
          with_true true = refl
          with_true false = refl

pub ruleset joined = (other_sum, rest_differs, front_decides, rules)
