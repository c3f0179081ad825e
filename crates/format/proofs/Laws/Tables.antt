-- Tables of rows in increasing order: what a lookup finds, what leaving rows out changes, and that the lookups determine the table.
use Rattle.std.specs.Prelude.{ℕ, suc, ◌≤◌, ◌<◌, List, ◌≡◌, ltb, eqb, length}
use Rattle.std.proofs.Math.Option.{Option, none, some}
use Rattle.std.proofs.Math.Path.{refl, ap}
use Rattle.std.proofs.Common.{sym, ap₂, ◌∙◌, le_trans}
use native.Mathlib.Omega.{arith}
use borrow.Author.Tests.{ltb-true, ltb-false, eqb-true, eqb-false, eq-eqb, ne_eqb}
use Rattle.std.proofs.Math.ListN.{length-append}
use Rattle.format.specs.Options.{some_then, map_some}
use Rattle.format.specs.Tables.{Table, nil, row, size, lookup, map_table}
use Rattle.format.specs.Canonical.{unless_empty, keep_rows, write_rows}
use Rattle.format.specs.Laws.Outcomes.{by_test}
use Rattle.format.specs.Laws.Options.{not_some, some_is, by_option}
use Rattle.format.proofs.Laws.Codecs.{Sorted, end, next}

module _ {A : Type 0} where
  -- a row at its own number, and at another
  pub lookup_here : (k : ℕ) (v : A) (t : Table A) → lookup k (row k v t) ≡ some v
  unfolding lookup
  lookup_here k v t = rw (eq-eqb k k refl)

  pub lookup_there : (j k : ℕ) (v : A) (t : Table A) → (j ≡ k → ⊥) → lookup j (row k v t) ≡ lookup j t
  unfolding lookup
  lookup_there j k v t h = rw (ne_eqb j k h)

module _ {A B : Type 0} (f : A → B) where
  pub lookup_map : (k : ℕ) (t : Table A) → lookup k (map_table f t) ≡ map_some f (lookup k t)
  unfolding lookup map_table
  lookup_map k nil = refl
  lookup_map k (row i v t) = by_test (eqb k i) (λ e. rw e) (λ e. rw (e) (lookup_map k t))

module _ {A : Type 0} {P : ℕ → A → Type 0} where
  pub sorted_lower : {t : Table A} {lo lo' : ℕ} → lo ≤ lo' → Sorted P lo' t → Sorted P lo t
  sorted_lower h end = end
  sorted_lower h (next l p s) = next (le_trans h l) p s

  pub lookup_below : {t : Table A} {lo : ℕ} (k : ℕ) → Sorted P lo t → k < lo → lookup k t ≡ none
  unfolding lookup
  lookup_below k end h = refl
  lookup_below k (next {k = i} l p s) h = rw (ne_eqb k i (λ q. omega arith)) (lookup_below k s (omega arith))

  pub lookup_fine : {t : Table A} {lo : ℕ} (k : ℕ) {v : A} → Sorted P lo t → lookup k t ≡ some v → P k v
  unfolding lookup
  lookup_fine k end e = absurd (not_some e)
  lookup_fine k (next {k = i} l p s) e =
      by_test (eqb k i)
      (λ q. rw (eqb-true k i q, ← some_is (rw q at e)) p)
      (λ q. lookup_fine k s (rw q at e))

-- where two tables that begin with the same number have the same lookups, so have what follows
same_tails : {A : Type 0} {P Q : ℕ → A → Type 0} {s t : Table A} (k : ℕ) (u v : A) → Sorted P (suc k) s → Sorted Q (suc k) t → ((j : ℕ) → lookup j (row k u s) ≡ lookup j (row k v t)) → (u ≡ v) × ((j : ℕ) → lookup j s ≡ lookup j t)
same_tails {s} {t} k u v r r' h = (
  some_is (sym (lookup_here k u s) ∙ h k ∙ lookup_here k v t),
  λ j. by_test (eqb j k)
      (λ q. rw (eqb-true j k q) (lookup_below k r (omega arith) ∙ sym (lookup_below k r' (omega arith))))
      (λ q. sym (lookup_there j k u s (eqb-false j k q)) ∙ h j ∙ lookup_there j k v t (eqb-false j k q)),
)

-- two tables in order with the same lookups are the same
pub same_lookups : {A : Type 0} {P Q : ℕ → A → Type 0} {s t : Table A} {lo lo' : ℕ} → Sorted P lo s → Sorted Q lo' t → ((k : ℕ) → lookup k s ≡ lookup k t) → s ≡ t
unfolding lookup
same_lookups end end h = refl
same_lookups end (next {k = k} {v = v} {t = t} l p r) h = absurd (not_some (h k ∙ lookup_here k v t))
same_lookups (next {k = k} {v = v} {t = t} l p r) end h = absurd (not_some (sym (h k) ∙ lookup_here k v t))
same_lookups (next {k = i} {v = u} {t = s} l p r) (next {k = k} {v = v} {t = t} l' p' r') h =
    by_test (ltb i k)
    (λ c. let lt = ltb-true i k c in
    absurd (not_some (sym (lookup_there i k v t (λ q. omega arith) ∙ lookup_below i r' (omega arith)) ∙ sym (h i) ∙ lookup_here i u s)))
    (λ c. by_test (ltb k i)
    (λ d. let lt = ltb-true k i d in
    absurd (not_some (sym (lookup_there k i u s (λ q. omega arith) ∙ lookup_below k r (omega arith)) ∙ h k ∙ lookup_here k v t)))
    (λ d. let q : i ≡ k = omega (arith, ltb-false i k c, ltb-false k i d) in
    let both = same_tails k u v (rw q at r) r' (rw q at h) in
    rw q (ap₂ (row k) both.0 (same_lookups r r' both.1))))

-- Leaving rows out
module _ {A B : Type 0} (f : A → Option B) where
  pub lookup_keep : {P : ℕ → A → Type 0} {t : Table A} {lo : ℕ} (k : ℕ) → Sorted P lo t → lookup k (keep_rows f t) ≡ some_then (lookup k t) f
  unfolding lookup keep_rows
  lookup_keep k end = refl
  lookup_keep k (next {k = i} {v = v} {t = t} l p s) =
      by_option (f v)
      (λ n. rw n (by_test (eqb k i)
      (λ e. rw (e, n) (lookup_keep k s ∙ ap (λ o. some_then o f) (lookup_below k s (omega (arith, eqb-true k i e)))))
      (λ e. rw e (lookup_keep k s))))
      (λ w n. rw n (by_test (eqb k i) (λ e. rw (e, n)) (λ e. rw e (lookup_keep k s))))

  pub sorted_keep : {P : ℕ → A → Type 0} {Q : ℕ → B → Type 0} → ((k : ℕ) (v : A) (w : B) → P k v → f v ≡ some w → Q k w) → {t : Table A} {lo : ℕ} → Sorted P lo t → Sorted Q lo (keep_rows f t)
  unfolding keep_rows
  sorted_keep h end = end
  sorted_keep h (next {k = k} {v = v} l p s) =
      by_option (f v)
      (λ n. rw n (sorted_lower (omega arith) (sorted_keep h s)))
      (λ w n. rw n (next l (h k v w p n) (sorted_keep h s)))

  pub size_keep : (t : Table A) → size (keep_rows f t) ≤ size t
  unfolding keep_rows size
  size_keep nil = omega arith
  size_keep (row k v t) = by_option (f v) (λ n. rw n (omega (arith, size_keep t))) (λ w n. rw n (omega (arith, size_keep t)))

-- nothing more is left out where each row stays as it is
pub keep_all : {A : Type 0} (f : A → Option A) {P : ℕ → A → Type 0} → ((k : ℕ) (v : A) → P k v → f v ≡ some v) → {t : Table A} {lo : ℕ} → Sorted P lo t → keep_rows f t ≡ t
unfolding keep_rows
keep_all f h end = refl
keep_all f h (next {k = k} {v = v} l p s) = rw (h k v p) (ap (row k v) (keep_all f h s))

module _ {A : Type 0} {P Q : ℕ → A → Type 0} (h : (k : ℕ) (v : A) → P k v → Q k v) where
  pub sorted_imp : {t : Table A} {lo : ℕ} → Sorted P lo t → Sorted Q lo t
  sorted_imp end = end
  sorted_imp (next {k = k} {v = v} l p s) = next l (h k v p) (sorted_imp s)

pub data NonEmpty {A : Type 0} : Table A → Type 0 where
  a_row : {k : ℕ} {v : A} {t : Table A} → NonEmpty (row k v t)

module _ {A : Type 0} where
  pub kept_rows : (t : Table A) {u : Table A} → unless_empty t ≡ some u → (t ≡ u) × NonEmpty u
  unfolding unless_empty
  kept_rows nil e = absurd (not_some e)
  kept_rows (row k v t) e = (some_is e, rw (← some_is e) a_row)

  pub keep_rows_lem : {t : Table A} → NonEmpty t → unless_empty t ≡ some t
  unfolding unless_empty
  keep_rows_lem a_row = refl

  pub lookup_kept : (j : ℕ) (t : Table A) → some_then (unless_empty t) (λ u. lookup j u) ≡ lookup j t
  unfolding unless_empty lookup
  lookup_kept j nil = refl
  lookup_kept j (row k v t) = refl

  pub row_found : {t : Table A} → NonEmpty t → (k : ℕ) × (v : A) × (lookup k t ≡ some v)
  row_found (a_row {k = k} {v = v} {t = t}) = (k, v, lookup_here k v t)

-- Values told apart by what they answer, none of them silent: so are tables of them
module _ {A Q R : Type 0} (obs : Q → A → Option R) (Fine : ℕ → A → Type 0)
    (loud : (k : ℕ) (v : A) → Fine k v → (q : Q) × (r : R) × (obs q v ≡ some r))
    (sure : (k : ℕ) (v w : A) → Fine k v → Fine k w → ((q : Q) → obs q v ≡ obs q w) → v ≡ w) where
  same_option : (k : ℕ) (a b : Option A) → ((v : A) → a ≡ some v → Fine k v) → ((v : A) → b ≡ some v → Fine k v) → ((q : Q) → some_then a (obs q) ≡ some_then b (obs q)) → a ≡ b
  same_option k none none p q h = refl
  same_option k none (some v) p q h = let (i, r, e) = loud k v (q v refl) in absurd (not_some (h i ∙ e))
  same_option k (some v) none p q h = let (i, r, e) = loud k v (p v refl) in absurd (not_some (sym (h i) ∙ e))
  same_option k (some v) (some w) p q h = ap some (sure k v w (p v refl) (q w refl) h)

  pub table_sure : {s t : Table A} {lo lo' : ℕ} → Sorted Fine lo s → Sorted Fine lo' t → ((k : ℕ) (q : Q) → some_then (lookup k s) (obs q) ≡ some_then (lookup k t) (obs q)) → s ≡ t
  table_sure {s} {t} a b h = same_lookups a b (λ k. same_option k (lookup k s) (lookup k t) (λ v e. lookup_fine k a e) (λ v e. lookup_fine k b e) (h k))

  pub table_loud : {t : Table A} {lo : ℕ} → Sorted Fine lo t → NonEmpty t → (k : ℕ) × (q : Q) × (r : R) × (some_then (lookup k t) (obs q) ≡ some r)
  table_loud a n = let (k, v, e) = row_found n in let (q, r, e') = loud k v (lookup_fine k a e) in (k, q, r, rw (e, e'))

-- what leaving rows out does to the length
module _ {A B : Type 0} (f : A → Option B) (write : A → List ℕ) (write' : B → List ℕ) {P : ℕ → A → Type 0} (h : (k : ℕ) (v : A) (w : B) → P k v → f v ≡ some w → length (write' w) ≤ length (write v)) where
  pub rows_shorter : {t : Table A} {lo : ℕ} → Sorted P lo t → length (write_rows write' (keep_rows f t)) ≤ length (write_rows write t)
  unfolding keep_rows write_rows
  rows_shorter end = omega arith
  rows_shorter (next {k = k} {v = v} l p s) =
      by_option (f v)
      (λ n. rw n (simp length-append (omega (arith, rows_shorter s))))
      (λ w n. rw n (simp length-append (omega (arith, rows_shorter s, h k v w p n))))
