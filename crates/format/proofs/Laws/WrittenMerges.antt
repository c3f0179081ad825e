-- K3. A merge as it is written: row by row, in no more bytes than both sides, and well formed where these are not too many.
use Rattle.std.specs.Prelude.{ℕ, ◌+◌, ◌≤◌, ◌<◌, List, ◌++◌, ◌≡◌, length}
use native.Mathlib.Omega.{arith}
use Rattle.std.proofs.Math.ListN.{length-append}
use Rattle.format.specs.Numbers.{shortest}
use Rattle.format.specs.Tables.{Table, nil, row, size}
use Rattle.format.specs.Canonical.{write_rows, write_table}
use Rattle.format.specs.Joined.{merged}
use Rattle.format.proofs.Laws.Numbers.{shortest_mono, shortest_positive, shortest_sum}
use Rattle.format.proofs.Laws.Codecs.{Fits32, Sorted, end, next, RowFine, TableFine}
use Rattle.format.proofs.Laws.Groups.{MapNorm}
use Rattle.format.proofs.Laws.Merging.{by_order, merge_no_left, merge_no_right, merge_left, merge_right, merge_both, merge_size, merge_sorted, merge_rows}

-- Written row by row
module _ {A : Type 0} (both : A → A → A) (write : A → List ℕ) where
  module _ (i j : ℕ) (v w : A) (t u : Table A) where
    pub write_left : i < j → write_rows write (merged both (row i v t) (row j w u)) ≡ shortest i ++ (write v ++ write_rows write (merged both t (row j w u)))
    unfolding write_rows
    write_left h = rw (merge_left both i j v w t u h)

    pub write_right : j < i → write_rows write (merged both (row i v t) (row j w u)) ≡ shortest j ++ (write w ++ write_rows write (merged both (row i v t) u))
    unfolding write_rows
    write_right h = rw (merge_right both i j v w t u h)

    pub write_both : i ≡ j → write_rows write (merged both (row i v t) (row j w u)) ≡ shortest i ++ (write (both v w) ++ write_rows write (merged both t u))
    unfolding write_rows
    write_both h = rw (merge_both both i j v w t u h)

  -- no longer than both sides, where no value is
  module _ (short : (v w : A) → length (write (both v w)) ≤ length (write v) + length (write w)) where
    pub merge_rows_length : (t u : Table A) → length (write_rows write (merged both t u)) ≤ length (write_rows write t) + length (write_rows write u)
    unfolding write_rows
    merge_rows_length nil u = rw (merge_no_left both u) (omega arith)
    merge_rows_length (row i v t) nil = rw (merge_no_right both (row i v t)) (omega arith)
    merge_rows_length (row i v t) (row j w u) =
        by_order i j
        (λ h. rw (merge_left both i j v w t u h) (simp length-append (omega (arith, simp length-append at (merge_rows_length t (row j w u))))))
        (λ h. rw (merge_right both i j v w t u h) (simp length-append (omega (arith, simp length-append at (merge_rows_length (row i v t) u)))))
        (λ h. rw (merge_both both i j v w t u h) (simp length-append (omega (arith, merge_rows_length t u, short v w))))

    pub merge_length : (t u : Table A) → length (write_table write (merged both t u)) ≤ length (write_table write t) + length (write_table write u)
    unfolding write_table
    merge_length t u = simp length-append (omega (arith, shortest_mono (size (merged both t u)) (size t + size u) (merge_size both t u), shortest_sum (size t) (size u), merge_rows_length t u))

-- What is well formed where it is not too long, in rows that together are not too long
module _ {A : Type 0} (write : A → List ℕ) (Fine : A → Type 0) where
  abbrev FineIfShort : ℕ → A → Type 0
  FineIfShort k v = Fits32 k × (Fits32 (length (write v)) → Fine v)

  rows_fit : {t : Table A} {least : ℕ} → Sorted FineIfShort least t → Fits32 (length (write_rows write t)) → Sorted (RowFine Fine) least t
  unfolding write_rows
  rows_fit end h = end
  rows_fit (next l p s) h = let h' = simp length-append at h in next l (p.0, p.1 (omega (arith, h'))) (rows_fit s (omega (arith, h')))

  rows_count : (t : Table A) → size t ≤ length (write_rows write t)
  unfolding write_rows size
  rows_count nil = omega arith
  rows_count (row k v t) = simp length-append (omega (arith, rows_count t, shortest_positive k))

  table_fit : {t : Table A} → Sorted FineIfShort 0 t → Fits32 (length (write_table write t)) → TableFine Fine t
  unfolding write_table
  table_fit {t} s h = let h' = simp length-append at h in record { count = omega (arith, h', rows_count t); sorted = rows_fit s (omega (arith, h')) }

  -- a merge of two well formed tables is so, if it is not too long
  module _ (both : A → A → A) (keeps : (v w : A) → Fine v → Fine w → Fits32 (length (write (both v w))) → Fine (both v w)) where
    pub merge_fine : {t u : Table A} → TableFine Fine t → TableFine Fine u → Fits32 (length (write_table write (merged both t u))) → TableFine Fine (merged both t u)
    merge_fine {t} {u} g h short =
        table_fit (merge_sorted both (λ k v p. (p.0, λ _. p.1)) (λ k w q. (q.0, λ _. q.1)) (λ k v w p q. (p.0, λ l. keeps v w p.1 q.1 l)) t u g.sorted h.sorted) short

    pub merge_norm : {t u : Table A} → MapNorm Fine t → MapNorm Fine u → Fits32 (length (write_table write (merged both t u))) → MapNorm Fine (merged both t u)
    merge_norm {t} {u} g h short = record { rows = merge_rows both g.rows u; fine = merge_fine g.fine h.fine short }
