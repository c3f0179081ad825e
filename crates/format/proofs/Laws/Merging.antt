-- K3. Two tables of rising numbers merged: what the merge begins with, what a lookup finds in it, that its numbers rise, and that leaving rows out can come before or after.
use Rattle.std.specs.Prelude.{ℕ, suc, ◌+◌, ◌≤◌, ◌<◌, ◌≡◌, ltb, eqb}
use Rattle.std.proofs.Math.Option.{Option, none, some}
use Rattle.std.proofs.Math.Path.{refl, sym}
use Rattle.std.proofs.Common.{ap, ◌∙◌, arith}
use borrow.Author.Tests.{ltb-true, ltb-false, lt-ltb, le-ltb, eqb-true}
use Rattle.format.specs.Options.{or_else}
use Rattle.format.specs.Tables.{Table, nil, row, size, lookup, map_table}
use Rattle.format.specs.Canonical.{unless_empty, row_if, keep_rows}
use Rattle.format.specs.Joined.{merged, the_first}
use Rattle.format.specs.Laws.Outcomes.{by_test}
use Rattle.format.specs.Laws.Options.{by_option}
use Rattle.format.proofs.Laws.Codecs.{Sorted, end, next}
use Rattle.format.proofs.Laws.Tables.{sorted_imp, lookup_below, sorted_keep, NonEmpty, a_row}

-- by which of two numbers is less
pub by_order {ℓ} : {C : Type ℓ} (i j : ℕ) → (i < j → C) → (j < i → C) → (i ≡ j → C) → C
by_order i j f g h = by_test (ltb i j) (λ c. f (ltb-true i j c)) (λ c. by_test (ltb j i) (λ d. g (ltb-true j i d)) (λ d. h (omega (arith, ltb-false i j c, ltb-false j i d))))

-- of two that may be missing: one value made of both, or the one that is there
abbrev pub either_some : {A : Type 0} → (A → A → A) → Option A → Option A → Option A
either_some both none y = y
either_some both (some v) none = some v
either_some both (some v) (some w) = some (both v w)

pub first_some : {A : Type 0} (x y : Option A) → either_some the_first x y ≡ or_else x y
first_some none y = refl
first_some (some v) none = refl
first_some (some v) (some w) = refl

pub either_none : {A : Type 0} (both : A → A → A) (x : Option A) → either_some both x none ≡ x
either_none both none = refl
either_none both (some v) = refl

-- rows of rising numbers, taken apart
pub sorted_row : {A : Type 0} {P : ℕ → A → Type 0} {least k : ℕ} {v : A} {t : Table A} → Sorted P least (row k v t) → (least ≤ k) × P k v × Sorted P (suc k) t
sorted_row (next l p s) = (l, p, s)

module _ {A : Type 0} (both : A → A → A) where
  -- What a merge begins with: nothing on one side; the less of two numbers; one number on both sides
  pub merge_no_left : (u : Table A) → merged both nil u ≡ u
  unfolding merged
  merge_no_left u = refl

  pub merge_no_right : (t : Table A) → merged both t nil ≡ t
  unfolding merged
  merge_no_right nil = refl
  merge_no_right (row i v t) = refl

  module _ (i j : ℕ) (v w : A) (t u : Table A) where
    pub merge_left : i < j → merged both (row i v t) (row j w u) ≡ row i v (merged both t (row j w u))
    unfolding merged
    merge_left h = rw (lt-ltb i j h)

    pub merge_right : j < i → merged both (row i v t) (row j w u) ≡ row j w (merged both (row i v t) u)
    unfolding merged
    merge_right h = rw (le-ltb i j (omega arith), lt-ltb j i h)

    pub merge_both : i ≡ j → merged both (row i v t) (row j w u) ≡ row i (both v w) (merged both t u)
    unfolding merged
    merge_both h = rw (le-ltb i j (omega arith), le-ltb j i (omega arith))

    -- counted
    pub size_left : i < j → size (merged both (row i v t) (row j w u)) ≡ suc (size (merged both t (row j w u)))
    unfolding size
    size_left h = rw (merge_left h)

    pub size_right : j < i → size (merged both (row i v t) (row j w u)) ≡ suc (size (merged both (row i v t) u))
    unfolding size
    size_right h = rw (merge_right h)

    pub size_both : i ≡ j → size (merged both (row i v t) (row j w u)) ≡ suc (size (merged both t u))
    unfolding size
    size_both h = rw (merge_both h)

  -- a number below all of the other side stands first
  pub merge_before : {P : ℕ → A → Type 0} {u : Table A} (i : ℕ) (v : A) (t : Table A) → Sorted P (suc i) u → merged both (row i v t) u ≡ row i v (merged both t u)
  merge_before i v t end = merge_no_right (row i v t) ∙ ap (row i v) (sym (merge_no_right t))
  merge_before i v t (next {k = j} {v = w} {t = u} l p s) = merge_left i j v w t u l

  pub merge_behind : {P : ℕ → A → Type 0} {t : Table A} (j : ℕ) (w : A) (u : Table A) → Sorted P (suc j) t → merged both t (row j w u) ≡ row j w (merged both t u)
  merge_behind j w u end = merge_no_left (row j w u) ∙ ap (row j w) (sym (merge_no_left u))
  merge_behind j w u (next {k = i} {v = v} {t = t} l p s) = merge_right i j v w t u l

  -- how many rows it has
  pub merge_size : (t u : Table A) → size (merged both t u) ≤ size t + size u
  unfolding size
  merge_size nil u = rw (merge_no_left u) (omega arith)
  merge_size (row i v t) nil = rw (merge_no_right (row i v t)) (omega arith)
  merge_size (row i v t) (row j w u) =
      by_order i j
      (λ h. rw (merge_left i j v w t u h) (omega (arith, merge_size t (row j w u))))
      (λ h. rw (merge_right i j v w t u h) (omega (arith, merge_size (row i v t) u)))
      (λ h. rw (merge_both i j v w t u h) (omega (arith, merge_size t u)))

  module _ {P Q : ℕ → A → Type 0} where
    -- rising numbers stay rising, whatever is true of the rows of both sides and of what is made of two
    pub merge_sorted : {R : ℕ → A → Type 0} → ((k : ℕ) (v : A) → P k v → R k v) → ((k : ℕ) (w : A) → Q k w → R k w) → ((k : ℕ) (v w : A) → P k v → Q k w → R k (both v w)) → (t u : Table A) {least : ℕ} → Sorted P least t → Sorted Q least u → Sorted R least (merged both t u)
    merge_sorted a b f nil u r s = rw (merge_no_left u) (sorted_imp b s)
    merge_sorted a b f (row i v t) nil r s = rw (merge_no_right (row i v t)) (sorted_imp a r)
    merge_sorted a b f (row i v t) (row j w u) r s =
        let (l, p, r') = sorted_row r in
        let (m, q, s') = sorted_row s in
        by_order i j
        (λ h. rw (merge_left i j v w t u h) (next l (a i v p) (merge_sorted a b f t (row j w u) r' (next h q s'))))
        (λ h. rw (merge_right i j v w t u h) (next m (b j w q) (merge_sorted a b f (row i v t) u (next h p r') s')))
        (λ h. rw (merge_both i j v w t u h) (next l (f i v w p (rw (← h) at q)) (merge_sorted a b f t u r' (rw (← h) at s'))))

    -- a lookup finds what either side has, and of both what is made of the two
    pub lookup_merged : (k : ℕ) (t u : Table A) {least least' : ℕ} → Sorted P least t → Sorted Q least' u → lookup k (merged both t u) ≡ either_some both (lookup k t) (lookup k u)
    unfolding lookup
    lookup_merged k nil u r s = rw (merge_no_left u)
    lookup_merged k (row i v t) nil r s = rw (merge_no_right (row i v t)) (sym (either_none both _))
    lookup_merged k (row i v t) (row j w u) r s =
        let (l, p, r') = sorted_row r in
        let (m, q, s') = sorted_row s in
        by_order i j
        (λ h. rw (merge_left i j v w t u h) (by_test (eqb k i)
        (λ e. let above : Sorted Q (suc i) (row j w u) = next h q s' in
        let none_there = lookup_below k above (omega (arith, eqb-true k i e)) in
        rw (e, none_there))
        (λ e. rw e (lookup_merged k t (row j w u) r' s))))
        (λ h. rw (merge_right i j v w t u h) (by_test (eqb k j)
        (λ e. let above : Sorted P (suc j) (row i v t) = next h p r' in
        let none_there = lookup_below k above (omega (arith, eqb-true k j e)) in
        rw (e, none_there))
        (λ e. rw e (lookup_merged k (row i v t) u r s'))))
        (λ h. rw (merge_both i j v w t u h, h) (by_test (eqb k j) (λ e. rw e) (λ e. rw e (lookup_merged k t u r' s'))))

  -- so what is true of each row of both sides stays true
  pub merge_keeps : {P : ℕ → A → Type 0} → ((k : ℕ) (v w : A) → P k v → P k w → P k (both v w)) → (t u : Table A) {least : ℕ} → Sorted P least t → Sorted P least u → Sorted P least (merged both t u)
  merge_keeps f t u r s = merge_sorted (λ k v p. p) (λ k w q. q) f t u r s

  -- numbers below a bound stay below it
  pub merge_below : (n : ℕ) (t u : Table A) {least : ℕ} → Sorted (λ k v. k < n) least t → Sorted (λ k v. k < n) least u → Sorted (λ k v. k < n) least (merged both t u)
  merge_below n t u r s = merge_keeps (λ k v w p q. p) t u r s

  -- a row on the left is a row of both
  pub merge_rows : {t : Table A} → NonEmpty t → (u : Table A) → NonEmpty (merged both t u)
  merge_rows (a_row {k = i} {v = v} {t = t}) nil = rw (merge_no_right (row i v t)) a_row
  merge_rows (a_row {k = i} {v = v} {t = t}) (row j w u) =
      by_order i j
      (λ h. rw (merge_left i j v w t u h) a_row)
      (λ h. rw (merge_right i j v w t u h) a_row)
      (λ h. rw (merge_both i j v w t u h) a_row)

  -- What is left of a merge is the merge of what is left of both sides
  pub merge_unless_empty : (t u : Table A) → unless_empty (merged both t u) ≡ either_some (merged both) (unless_empty t) (unless_empty u)
  unfolding unless_empty
  merge_unless_empty nil u = rw (merge_no_left u)
  merge_unless_empty (row i v t) nil = rw (merge_no_right (row i v t))
  merge_unless_empty (row i v t) (row j w u) =
      by_order i j
      (λ h. rw (merge_left i j v w t u h))
      (λ h. rw (merge_right i j v w t u h))
      (λ h. rw (merge_both i j v w t u h))

-- What is left of the rows that a merge begins with
module _ {A B : Type 0} (both : A → A → A) (f : A → Option B) (i j : ℕ) (v w : A) (t u : Table A) where
  pub keep_left : i < j → keep_rows f (merged both (row i v t) (row j w u)) ≡ row_if i (f v) (keep_rows f (merged both t (row j w u)))
  unfolding keep_rows
  keep_left h = rw (merge_left both i j v w t u h)

  pub keep_right : j < i → keep_rows f (merged both (row i v t) (row j w u)) ≡ row_if j (f w) (keep_rows f (merged both (row i v t) u))
  unfolding keep_rows
  keep_right h = rw (merge_right both i j v w t u h)

  pub keep_both : i ≡ j → keep_rows f (merged both (row i v t) (row j w u)) ≡ row_if i (f (both v w)) (keep_rows f (merged both t u))
  unfolding keep_rows
  keep_both h = rw (merge_both both i j v w t u h)

-- A merge of other values
module _ {A B : Type 0} (both : A → A → A) (both' : B → B → B) where
  pub map_merged : (f : A → B) → ((v w : A) → f (both v w) ≡ both' (f v) (f w)) → (t u : Table A) → map_table f (merged both t u) ≡ merged both' (map_table f t) (map_table f u)
  unfolding map_table
  map_merged f c nil u = rw (merge_no_left both u) (sym (merge_no_left both' (map_table f u)))
  map_merged f c (row i v t) nil = rw (merge_no_right both (row i v t)) (sym (merge_no_right both' (map_table f (row i v t))))
  map_merged f c (row i v t) (row j w u) =
      by_order i j
      (λ h. rw (merge_left both i j v w t u h, merge_left both' i j (f v) (f w) (map_table f t) (map_table f u) h) (ap (row i (f v)) (map_merged f c t (row j w u))))
      (λ h. rw (merge_right both i j v w t u h, merge_right both' i j (f v) (f w) (map_table f t) (map_table f u) h) (ap (row j (f w)) (map_merged f c (row i v t) u)))
      (λ h. rw (merge_both both i j v w t u h, merge_both both' i j (f v) (f w) (map_table f t) (map_table f u) h, c v w) (ap (row i (both' (f v) (f w))) (map_merged f c t u)))

  -- and where rows are left out, of what is left of both sides
  module _ (f : A → Option B) {P Q : ℕ → A → Type 0} (c : (k : ℕ) (v w : A) → P k v → Q k w → f (both v w) ≡ either_some both' (f v) (f w)) where
    left_above : {S : ℕ → A → Type 0} {least : ℕ} {t : Table A} → Sorted S least t → Sorted (λ k v. Unit {0}) least (keep_rows f t)
    left_above s = sorted_keep f (λ k v w _ _. tt) s

    pub keep_merged : (t u : Table A) {least least' : ℕ} → Sorted P least t → Sorted Q least' u → keep_rows f (merged both t u) ≡ merged both' (keep_rows f t) (keep_rows f u)
    unfolding keep_rows
    keep_merged nil u r s = rw (merge_no_left both u) (sym (merge_no_left both' (keep_rows f u)))
    keep_merged (row i v t) nil r s = rw (merge_no_right both (row i v t)) (sym (merge_no_right both' (keep_rows f (row i v t))))
    keep_merged (row i v t) (row j w u) r s =
        let (l, p, r') = sorted_row r in
        let (m, q, s') = sorted_row s in
        by_order i j
        (λ h. let above : Sorted Q (suc i) (row j w u) = next h q s' in
        rw (merge_left both i j v w t u h) (by_option (f v)
        (λ n. rw n (keep_merged t (row j w u) r' s))
        (λ x n. rw n (ap (row i x) (keep_merged t (row j w u) r' s) ∙ sym (merge_before both' i x (keep_rows f t) (left_above above))))))
        (λ h. let above : Sorted P (suc j) (row i v t) = next h p r' in
        rw (merge_right both i j v w t u h) (by_option (f w)
        (λ n. rw n (keep_merged (row i v t) u r s'))
        (λ x n. rw n (ap (row j x) (keep_merged (row i v t) u r s') ∙ sym (merge_behind both' j x (keep_rows f u) (left_above above))))))
        (λ h. let q' = rw (← h) at q in
        let s'' = rw (← h) at s' in
        let more = keep_merged t u r' s' in
        rw (merge_both both i j v w t u h, c i v w p q', ← h) (by_option (f v)
        (λ n. rw n (by_option (f w)
        (λ k. rw k more)
        (λ y k. rw k (ap (row i y) more ∙ sym (merge_behind both' i y (keep_rows f u) (left_above r'))))))
        (λ x n. rw n (by_option (f w)
        (λ k. rw k (ap (row i x) more ∙ sym (merge_before both' i x (keep_rows f t) (left_above s''))))
        (λ y k. rw k (ap (row i (both' x y)) more ∙ sym (merge_both both' i i x y (keep_rows f t) (keep_rows f u) refl)))))))
