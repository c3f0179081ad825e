-- The checks of the lists: that they agree, that the indices rise, that each name is text.
use Rattle.std.specs.Prelude.{Ok, Err}
use Prim.Native.Nat.{ℕ, zero, suc, ◌+◌, ◌-◌, ◌≤◌, ◌<◌}
use mathlib.Core.Bool.{Bool, true, false, not}
use mathlib.Core.List.{List, [], ◌∷◌}
use mathlib.Core.Path.{◌≡◌, refl, sym, ◌∙◌}
use native.Mathlib.Nat.{zero-add, suc-add}
use native.Mathlib.Numerals.{add-one}
use native.Mathlib.Omega.{arith}
use borrow.Author.Rules.{rules}
use borrow.Author.Tests.{not-true, not-false, eqb-true, eqb-false, eq-eqb, ne_eqb, le-leb, lt-leb}
use lib.Dec.{eqb}
use lib.ListN.{length, take, drop, get_or}
use lib.Seq.{slice, take-nil}
use Rattle.format.specs.Lists.{sum, unsorted_at, bad_text_at}
use Rattle.format.specs.Text.{utf8}
use Rattle.format.specs.Laws.Outcomes.{by_test}
use Rattle.format.specs.declared.Reason.TheVariants.{NotAbove, NotText}
use Rattle.lists.specs.Steps.{agree, checked_as, index_check, text_check}
use Rattle.lists.proofs.Laws.{sum_next, sum_end, unsorted_next, unsorted_end, bad_text_next, bad_text_end}

-- The loop that adds lengths up: `left` is what those from `k` on have to add up to
pub record Adding (ns : List ℕ) (total left k : ℕ) : Type 0 where
  pub same : sum ns + left ≡ total + sum (drop k ns)

pub adding_none : {ns : List ℕ} {total : ℕ} → Adding ns total total 0
adding_none = record { same = omega arith }

left_none : (a b c : ℕ) → a + b ≡ c → eqb b 0 ≡ eqb a c
left_none a b c e =
    by_test (eqb b 0)
    (λ t. t ∙ sym (eq-eqb a c (omega (arith, eqb-true b 0 t))))
    (λ t. t ∙ sym (ne_eqb a c (λ q. eqb-false b 0 t (omega arith))))

module _ {ns : List ℕ} {total left k : ℕ} (t : Adding ns total left k) where
  pub adding_more : {n : ℕ} → k < length ns → n ≡ get_or ns k 0 → n ≤ left → Adding ns total (left - n) (k + 1)
  adding_more h e l = record { same = omega (arith, sum_next ns k h) }

  pub adding_past : {n : ℕ} → k < length ns → n ≡ get_or ns k 0 → left < n → false ≡ eqb (sum ns) total
  adding_past h e l = sym (ne_eqb (sum ns) total (λ q. omega (arith, sum_next ns k h)))

  pub adding_ends : length ns ≤ k → eqb left 0 ≡ eqb (sum ns) total
  adding_ends h = left_none (sum ns) left total (omega (arith, sum_end ns k h))

module _ (is ns text : List ℕ) where
  pub agree_sum : {r : Bool} → length is ≡ length ns → r ≡ eqb (sum ns) (length text) → r ≡ agree is ns text
  unfolding agree
  agree_sum e q = q ∙ rw (eq-eqb (length is) (length ns) e)

  pub agree_not : (length is ≡ length ns → ⊥) → false ≡ agree is ns text
  unfolding agree
  agree_not e = rw (ne_eqb (length is) (length ns) e)

pub ruleset agreement = (adding_none, adding_more, adding_past, adding_ends, agree_sum, agree_not, rules)

-- The loop over the indices: those before `k` rise, and the next is at least `least`
pub record Rising (is : List ℕ) (least k : ℕ) : Type 0 where
  pub same : unsorted_at 0 0 is ≡ unsorted_at k least (drop k is)

pub rising_none : {is : List ℕ} → Rising is 0 0
rising_none = record { same = refl }

module _ {is : List ℕ} {least k : ℕ} (t : Rising is least k) where
  pub rising_more : {i : ℕ} → k < length is → i ≡ get_or is k 0 → least ≤ i → Rising is (i + 1) (k + 1)
  rising_more {i} h e l = record { same = t.same ∙ rw (unsorted_next is k least h, ← e, le-leb least i l, add-one i) }

  pub rising_refused : {i : ℕ} → k < length is → i ≡ get_or is k 0 → i < least → checked_as (Err (record { reason = NotAbove; offset = record { 0 = k } })) ≡ index_check is
  unfolding index_check
  rising_refused {i} h e l = rw (t.same, unsorted_next is k least h, ← e, lt-leb least i l)

  pub rising_ends : length is ≤ k → checked_as (Ok tt) ≡ index_check is
  unfolding index_check
  rising_ends h = rw (t.same, unsorted_end is k least h)

pub ruleset rises = (rising_none, rising_more, rising_refused, rising_ends, rules)

-- a name's stretch of the joined text
stretch : (start n : ℕ) (text : List ℕ) → slice start (start + n) text ≡ take n (drop start text)
stretch zero n text = rw zero-add
stretch (suc start) n [] = rw (suc-add, take-nil)
stretch (suc start) n (x ∷ text) = rw suc-add (stretch start n text)

-- The loop over the names: those before `k` are text, and the next starts at `start`
pub record Reading (ns text : List ℕ) (start k : ℕ) : Type 0 where
  pub inside : start + sum (drop k ns) ≤ length text
  pub same : bad_text_at 0 ns text ≡ bad_text_at start (drop k ns) (drop start text)

pub reading_none : {ns text : List ℕ} → sum ns ≤ length text → Reading ns text 0 0
reading_none h = record { inside = omega arith; same = refl }

module _ {ns text : List ℕ} {start k : ℕ} (t : Reading ns text start k) where
  module _ {n : ℕ} (h : k < length ns) (e : n ≡ get_or ns k 0) where
    pub reading_inside : start + n ≤ length text
    reading_inside = omega (arith, sum_next ns k h)

    pub reading_more : {b : Bool} → b ≡ utf8 (slice start (start + n) text) → not b ≡ false → Reading ns text (start + n) (k + 1)
    reading_more {b} u v =
        let fine : utf8 (take n (drop start text)) ≡ true = rw (← stretch start n text) (sym u ∙ not-false b v) in
        record {
          inside = omega (arith, sum_next ns k h);
          same = t.same ∙ rw (bad_text_next ns k text start h, ← e, fine);
        }

    pub reading_refused : {b : Bool} → b ≡ utf8 (slice start (start + n) text) → not b ≡ true → checked_as (Err (record { reason = NotText; offset = record { 0 = start } })) ≡ text_check ns text
    unfolding text_check
    reading_refused {b} u v =
        let bad : utf8 (take n (drop start text)) ≡ false = rw (← stretch start n text) (sym u ∙ not-true b v) in
        rw (t.same, bad_text_next ns k text start h, ← e, bad)

  pub reading_ends : length ns ≤ k → checked_as (Ok tt) ≡ text_check ns text
  unfolding text_check
  reading_ends h = rw (t.same, bad_text_end ns k text start h)

pub ruleset readings = (reading_none, reading_inside, reading_more, reading_refused, reading_ends, rules)
