-- K8. What is wrong with lists of markers: the position that refusal 22 gives is the first at fault, and there is none exactly where no position is.
use Rattle.std.specs.Prelude.{ℕ, zero, suc, ◌+◌, ◌≤◌, ◌<◌, ◌↔◌, ◌≡◌, leb, ltb, length, get_or}
use mathlib.Core.List.{List, [], ◌∷◌}
use Rattle.std.proofs.Math.Option.{none, some}
use Rattle.std.proofs.Math.Path.{refl}
use Rattle.std.proofs.Common.{sym, ap, ◌∙◌, arith, ltb-true, ltb-false, leb-true, leb-false}
use Rattle.format.specs.Markers.{first_fault}
use Rattle.format.specs.MarkerRule.{AtFault, index_stays_lem, offset_stays_lem, not_below, FirstFault, NoFault}
use Rattle.format.specs.Laws.Outcomes.{by_test}
use Rattle.format.specs.Laws.Options.{not_some, some_is}

-- Of what is left of the lists: the first index is at least `k`, and the first offset at least `o`
data FaultFrom (end k o : ℕ) (is os : List ℕ) : ℕ → Type 0 where
  index_low : get_or is 0 0 < k → FaultFrom end k o is os 0
  offset_low : get_or os 0 0 < o → FaultFrom end k o is os 0
  fault : {i : ℕ} → AtFault end is os i → FaultFrom end k o is os i

module _ (end : ℕ) where
  -- one position further
  further : {k o x y i : ℕ} {is os : List ℕ} → FaultFrom end (suc x) (suc y) is os i → FaultFrom end k o (x ∷ is) (y ∷ os) (suc i)
  further (index_low h) = fault (index_stays_lem {i = 0} (omega arith))
  further (offset_low h) = fault (offset_stays_lem {i = 0} (omega arith))
  further (fault (index_stays_lem h)) = fault (index_stays_lem h)
  further (fault (offset_stays_lem h)) = fault (offset_stays_lem h)
  further (fault (not_below h)) = fault (not_below h)

  nearer : {k o x y i : ℕ} {is os : List ℕ} → FaultFrom end k o (x ∷ is) (y ∷ os) (suc i) → FaultFrom end (suc x) (suc y) is os i
  nearer {i = zero} (fault (index_stays_lem h)) = index_low (omega arith)
  nearer {i = zero} (fault (offset_stays_lem h)) = offset_low (omega arith)
  nearer {i = zero} (fault (not_below h)) = fault (not_below h)
  nearer {i = suc i} (fault (index_stays_lem h)) = fault (index_stays_lem h)
  nearer {i = suc i} (fault (offset_stays_lem h)) = fault (offset_stays_lem h)
  nearer {i = suc i} (fault (not_below h)) = fault (not_below h)

  fine_here : {k o x y : ℕ} {is os : List ℕ} → k ≤ x → o ≤ y → y < end → FaultFrom end k o (x ∷ is) (y ∷ os) 0 → ⊥
  fine_here a b c (index_low h) = omega arith
  fine_here a b c (offset_low h) = omega arith
  fine_here a b c (fault (not_below h)) = omega arith

  from_zero : {k o n : ℕ} {is os : List ℕ} → (FaultFrom end k o is os 0 → ⊥) → ((i : ℕ) → i < n → FaultFrom end k o is os (suc i) → ⊥) → (i : ℕ) → i < suc n → FaultFrom end k o is os i → ⊥
  from_zero first more zero l f = first f
  from_zero first more (suc i) l f = more i (omega arith) f

  -- what the search comes to
  data Searched (position k o : ℕ) (is os : List ℕ) : Type 0 where
    clean : first_fault end position k o is os ≡ none → ((i : ℕ) → i < length is → FaultFrom end k o is os i → ⊥) → Searched position k o is os
    found : (i : ℕ) → first_fault end position k o is os ≡ some (position + i) → i < length is → FaultFrom end k o is os i → ((j : ℕ) → j < i → FaultFrom end k o is os j → ⊥) → Searched position k o is os

  here : {position k o x y : ℕ} {is os : List ℕ} → first_fault end position k o (x ∷ is) (y ∷ os) ≡ some position → FaultFrom end k o (x ∷ is) (y ∷ os) 0 → Searched position k o (x ∷ is) (y ∷ os)
  here {position} e f = found 0 (e ∙ ap some (omega arith)) (omega arith) f (λ j l g. omega arith)

  behind : {position k o x y : ℕ} {is os : List ℕ} → k ≤ x → o ≤ y → y < end → first_fault end position k o (x ∷ is) (y ∷ os) ≡ first_fault end (suc position) (suc x) (suc y) is os → Searched (suc position) (suc x) (suc y) is os → Searched position k o (x ∷ is) (y ∷ os)
  behind a b c e (clean n none_at) = clean (e ∙ n) (from_zero (fine_here a b c) (λ i l f. none_at i l (nearer f)))
  behind a b c e (found i n within f least) = found (suc i) (e ∙ n ∙ ap some (omega arith)) (omega arith) (further f) (from_zero (fine_here a b c) (λ j l g. least j l (nearer g)))

  searched : (position k o : ℕ) (is os : List ℕ) → length is ≡ length os → Searched position k o is os
  unfolding first_fault
  searched position k o [] [] q = clean refl (λ i l f. omega arith)
  searched position k o [] (y ∷ os) q = absurd (omega arith)
  searched position k o (x ∷ is) [] q = absurd (omega arith)
  searched position k o (x ∷ is) (y ∷ os) q =
      by_test (leb k x) (λ a. by_test (leb o y) (λ b. by_test (ltb y end)
      (λ c. behind (leb-true k x a) (leb-true o y b) (ltb-true y end c) (rw (a, b, c)) (searched (suc position) (suc x) (suc y) is os (omega arith)))
      (λ c. here (rw (a, b, c)) (fault (not_below (ltb-false y end c)))))
      (λ b. here (rw (a, b)) (offset_low (leb-false o y b))))
      (λ a. here (rw a) (index_low (leb-false k x a)))

-- nothing is below the least that is asked of the first
from_nothing : {end i : ℕ} {is os : List ℕ} → FaultFrom end 0 0 is os i → AtFault end is os i
from_nothing (index_low h) = absurd (omega arith)
from_nothing (offset_low h) = absurd (omega arith)
from_nothing (fault f) = f

-- there is one first position
one_first : {end i j : ℕ} {is os : List ℕ} → FirstFault end is os i → FirstFault end is os j → i ≡ j
one_first {i = i} {j = j} a b =
    by_test (ltb i j)
    (λ l. absurd (b.least i (ltb-true i j l) a.fault))
    (λ l. by_test (ltb j i)
    (λ m. absurd (a.least j (ltb-true j i m) b.fault))
    (λ m. omega (arith, ltb-false i j l, ltb-false j i m)))

module _ (end : ℕ) (is os : List ℕ) (equal : length is ≡ length os) where
  pub fault_exactly : (i : ℕ) → (first_fault end 0 0 0 is os ≡ some i) ↔ FirstFault end is os i
  fault_exactly i = by_search (searched end 0 0 0 is os equal)
    where
      by_search : Searched end 0 0 0 is os → (first_fault end 0 0 0 is os ≡ some i) ↔ FirstFault end is os i
      by_search (clean n fine) = (λ e. absurd (not_some (sym n ∙ e)), λ f. absurd (fine i f.within (fault f.fault)))
      by_search (found j n within f least) =
          let is_some : first_fault end 0 0 0 is os ≡ some j = n ∙ ap some (omega arith) in
          let first : FirstFault end is os j = record { within = within; fault = from_nothing f; least = λ h l g. least h l (fault g) } in
          (λ e. rw (← some_is (sym is_some ∙ e)) first, λ f. is_some ∙ ap some (one_first first f))

  pub no_fault_exactly : (first_fault end 0 0 0 is os ≡ none) ↔ NoFault end is os
  no_fault_exactly = by_search (searched end 0 0 0 is os equal)
    where
      by_search : Searched end 0 0 0 is os → (first_fault end 0 0 0 is os ≡ none) ↔ NoFault end is os
      by_search (clean n fine) = (λ e i l f. fine i l (fault f), λ _. n)
      by_search (found j n within f least) = (λ e. absurd (not_some (sym e ∙ n)), λ fine. absurd (fine j within (from_nothing f)))
