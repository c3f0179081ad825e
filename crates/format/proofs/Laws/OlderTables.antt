-- Tables that values are put into: what a lookup finds then, that the rows stay in increasing order, and how much longer the writing gets.
use Rattle.std.specs.Prelude.{ℕ, suc, ◌+◌, ◌≤◌, cond, List, ◌≡◌, ltb, eqb, length}
use Rattle.std.proofs.Math.Option.{Option, none}
use Rattle.std.proofs.Math.Path.{refl}
use Rattle.std.proofs.Common.{sym, ◌∙◌}
use native.Mathlib.Omega.{arith}
use borrow.Author.Tests.{ltb-true, ltb-false, eqb-true, eqb-false, eq-eqb, ne_eqb}
use Rattle.std.proofs.Math.ListN.{length-append}
use Rattle.format.specs.Numbers.{shortest}
use Rattle.format.specs.Options.{some_then, or_else}
use Rattle.format.specs.Tables.{Table, nil, row, size, lookup}
use Rattle.format.specs.Canonical.{write_rows}
use Rattle.format.specs.Older.{put_first, amend}
use Rattle.format.specs.Laws.Outcomes.{by_test}
use Rattle.format.specs.Laws.Options.{or_none}
use Rattle.format.proofs.Laws.Codecs.{Sorted, end, next}
use Rattle.format.proofs.Laws.Tables.{lookup_below, NonEmpty, a_row}

-- A value put in
module _ {A : Type 0} (k : ℕ) (v : A) where
  pub put_row : (t : Table A) → NonEmpty (put_first k v t)
  unfolding put_first
  put_row nil = a_row
  put_row (row i w t) = by_test (eqb k i) (λ q. rw q a_row) (λ q. by_test (ltb k i) (λ c. rw (q, c) a_row) (λ c. rw (q, c) a_row))

  pub put_size : (t : Table A) → size (put_first k v t) ≤ suc (size t)
  unfolding put_first size
  put_size nil = omega arith
  put_size (row i w t) = by_test (eqb k i) (λ q. rw q (omega arith)) (λ q. by_test (ltb k i) (λ c. rw (q, c) (omega arith)) (λ c. rw (q, c) (omega (arith, put_size t))))

  module _ {P : ℕ → A → Type 0} where
    pub put_sorted : {t : Table A} {lo : ℕ} → lo ≤ k → P k v → Sorted P lo t → Sorted P lo (put_first k v t)
    unfolding put_first
    put_sorted h p end = next h p end
    put_sorted h p (next {k = i} l q s) =
        by_test (eqb k i)
        (λ e. rw e (next l q s))
        (λ e. by_test (ltb k i)
        (λ c. rw (e, c) (next h p (next (ltb-true k i c) q s)))
        (λ c. rw (e, c) (next l q (put_sorted (omega (arith, eqb-false k i e, ltb-false k i c)) p s))))

    -- what was there stays, and at its number the value is found where nothing was
    pub lookup_put : {t : Table A} {lo : ℕ} (j : ℕ) → Sorted P lo t → lookup j (put_first k v t) ≡ or_else (lookup j t) (lookup j (row k v nil))
    unfolding put_first lookup
    lookup_put j end = refl
    lookup_put j (next {k = i} {v = w} {t = t} l q s) =
        by_test (eqb k i)
        (λ e. rw e (by_test (eqb j i)
        (λ c. rw c)
        (λ c. rw (c, eqb-true k i e, c) (sym (or_none (lookup j t))))))
        (λ e. by_test (ltb k i)
        (λ c. rw (e, c) (by_test (eqb j k)
        (λ d. rw (d, ne_eqb j i (λ z. omega (arith, eqb-true j k d, ltb-true k i c)), lookup_below j s (omega (arith, eqb-true j k d, ltb-true k i c))))
        (λ d. rw d (sym (or_none (cond (eqb j i) _ (lookup j t)))))))
        (λ c. rw (e, c) (by_test (eqb j i) (λ d. rw d) (λ d. rw d (lookup_put j s)))))

-- A row changed
module _ {A : Type 0} (k : ℕ) where
  pub amend_twice : (f g : Table A → Table A) (t : Table (Table A)) → amend k f (amend k g t) ≡ amend k (λ u. f (g u)) t
  unfolding amend
  amend_twice f g nil = rw (eq-eqb k k refl)
  amend_twice f g (row i w t) =
      by_test (eqb k i)
      (λ e. rw (e, e))
      (λ e. by_test (ltb k i)
      (λ c. rw (e, c, eq-eqb k k refl))
      (λ c. rw (e, c, e, c, amend_twice f g t)))

  module _ (change : Table A → Table A) where
    pub amend_size : (t : Table (Table A)) → size (amend k change t) ≤ suc (size t)
    unfolding amend size
    amend_size nil = omega arith
    amend_size (row i w t) = by_test (eqb k i) (λ e. rw e (omega arith)) (λ e. by_test (ltb k i) (λ c. rw (e, c) (omega arith)) (λ c. rw (e, c) (omega (arith, amend_size t))))

    module _ {P : ℕ → Table A → Type 0} where
      pub amend_sorted : {t : Table (Table A)} {lo : ℕ} → lo ≤ k → P k (change nil) → ((u : Table A) → P k u → P k (change u)) → Sorted P lo t → Sorted P lo (amend k change t)
      unfolding amend
      amend_sorted h p f end = next h p end
      amend_sorted h p f (next {k = i} {v = w} l q s) =
          by_test (eqb k i)
          (λ e. rw e (next l (rw (eqb-true k i e) at (f w (rw (← eqb-true k i e) at q))) s))
          (λ e. by_test (ltb k i)
          (λ c. rw (e, c) (next h p (next (ltb-true k i c) q s)))
          (λ c. rw (e, c) (next l q (amend_sorted (omega (arith, eqb-false k i e, ltb-false k i c)) p f s))))

      -- where the change puts in what was not there, so it does in the table
      pub lookup_amend : (o : ℕ) (put : Option A) → lookup o (change nil) ≡ put → ((u : Table A) → P k u → lookup o (change u) ≡ or_else (lookup o u) put) → {t : Table (Table A)} {lo : ℕ} (j : ℕ) → Sorted P lo t → some_then (lookup j (amend k change t)) (lookup o) ≡ or_else (some_then (lookup j t) (lookup o)) (cond (eqb j k) put none)
      unfolding amend lookup
      lookup_amend o put b f j end = by_test (eqb j k) (λ d. rw (d, b)) (λ d. rw d)
      lookup_amend o put b f j (next {k = i} {v = w} {t = t} l q s) =
          by_test (eqb k i)
          (λ e. rw e (by_test (eqb j i)
          (λ d. rw (d, eqb-true k i e, d) (f w (rw (← eqb-true k i e) at q)))
          (λ d. rw (d, eqb-true k i e, d) (sym (or_none (some_then (lookup j t) (lookup o)))))))
          (λ e. by_test (ltb k i)
          (λ c. rw (e, c) (by_test (eqb j k)
          (λ d. rw (d, ne_eqb j i (λ z. omega (arith, eqb-true j k d, ltb-true k i c)), lookup_below j s (omega (arith, eqb-true j k d, ltb-true k i c))) b)
          (λ d. rw d (sym (or_none (some_then (cond (eqb j i) _ (lookup j t)) (lookup o)))))))
          (λ c. rw (e, c) (by_test (eqb j i)
          (λ d. rw (d, ne_eqb j k (λ z. eqb-false k i e (sym z ∙ eqb-true j i d))) (sym (or_none (lookup o w))))
          (λ d. rw d (lookup_amend o put b f j s)))))

    -- a change that adds at most so many bytes to what a row has
    pub amend_length : (write : Table A → List ℕ) (c : ℕ) → length (write (change nil)) ≤ c → ((u : Table A) → length (write (change u)) ≤ length (write u) + c) → (t : Table (Table A)) → length (write_rows write (amend k change t)) ≤ length (shortest k) + c + length (write_rows write t)
    unfolding amend write_rows
    amend_length write c b f nil = simp length-append (omega arith)
    amend_length write c b f (row i w t) =
        by_test (eqb k i)
        (λ e. rw e (simp length-append (omega (arith, f w))))
        (λ e. by_test (ltb k i)
        (λ d. rw (e, d) (simp length-append (omega arith)))
        (λ d. rw (e, d) (simp length-append (omega (arith, amend_length write c b f t)))))
