-- Tables of tables, as an indirect map and code metadata are: leaving out what has no rows.
use Rattle.std.specs.Prelude.{ℕ, ◌≤◌, List, ◌≡◌, length}
use Rattle.std.proofs.Math.Option.{Option, none, some}
use Rattle.std.proofs.Common.{arith, length-append}
use Rattle.format.specs.Options.{some_then}
use Rattle.format.specs.Tables.{Table, size, lookup}
use Rattle.format.specs.Canonical.{unless_empty, keep_rows, write_table}
use Rattle.format.proofs.Laws.Numbers.{shortest_mono}
use Rattle.format.specs.Laws.Options.{in_then, by_option}
use Rattle.format.proofs.Laws.Codecs.{Fits32, Sorted, RowFine, TableFine}
use Rattle.format.proofs.Laws.Tables.{lookup_fine, lookup_keep, sorted_keep, size_keep, keep_all, sorted_imp, same_lookups, NonEmpty, kept_rows, keep_rows_lem, lookup_kept, row_found, table_sure, table_loud, rows_shorter}

-- every answer is kept
pub groups_answer : {B : Type 0} {P : ℕ → Table B → Type 0} {t : Table (Table B)} {lo : ℕ} → Sorted P lo t → (k j : ℕ) → some_then (lookup k (keep_rows unless_empty t)) (lookup j) ≡ some_then (lookup k t) (lookup j)
groups_answer {t = t} s k j = rw (lookup_keep unless_empty k s) (by_option (lookup k t) (λ e. rw e) (λ u e. rw e (lookup_kept j u)))

-- a number of more than 32 bits gets none
pub in_range_or_none {ℓ} : {C : Type ℓ} {B : Type 0} {P : ℕ → Table B → Type 0} {Q : ℕ → B → Type 0} → ((k : ℕ) (u : Table B) → P k u → Fits32 k × Sorted Q 0 u) → ((j : ℕ) (x : B) → Q j x → Fits32 j) → {t : Table (Table B)} {lo : ℕ} → Sorted P lo t → (k j : ℕ) → (Fits32 k → Fits32 j → C) → (some_then (lookup k t) (lookup j) ≡ none → C) → C
in_range_or_none group fits {t} s k j f g =
    by_option (some_then (lookup k t) (lookup j))
    g
    (λ x e. in_then (lookup k t) (lookup j) e λ u e₁ e₂. let h = group k u (lookup_fine k s e₁) in f h.0 (fits j x (lookup_fine j h.1 e₂)))

-- nothing gets longer
table_shorter : {A B : Type 0} (f : A → Option B) (write : A → List ℕ) (write' : B → List ℕ) {P : ℕ → A → Type 0} → ((k : ℕ) (v : A) (w : B) → P k v → f v ≡ some w → length (write' w) ≤ length (write v)) → {t : Table A} {lo : ℕ} → Sorted P lo t → length (write_table write' (keep_rows f t)) ≤ length (write_table write t)
unfolding write_table
table_shorter f write write' h {t} s = simp length-append (omega (arith, shortest_mono (size (keep_rows f t)) (size t) (size_keep f t), rows_shorter f write write' h s))

pub groups_shorter : {B : Type 0} (write : Table B → List ℕ) {P : ℕ → Table B → Type 0} {t : Table (Table B)} {lo : ℕ} → Sorted P lo t → length (write_table write (keep_rows unless_empty t)) ≤ length (write_table write t)
groups_shorter write s = table_shorter unless_empty write write (λ k v w _ e. rw (kept_rows v e).0 (omega arith)) s

module _ {B : Type 0} (Fine : B → Type 0) where
  -- a table with rows
  pub record MapNorm (t : Table B) : Type 0 where
    pub rows : NonEmpty t
    pub fine : TableFine Fine t

  group_norm : (k : ℕ) (t u : Table B) → RowFine (TableFine Fine) k t → unless_empty t ≡ some u → RowFine MapNorm k u
  group_norm k t u h e = let (q, n) = kept_rows t e in (h.0, record { rows = n; fine = rw q at h.1 })

  pub groups_norm : {t : Table (Table B)} → TableFine (TableFine Fine) t → TableFine MapNorm (keep_rows unless_empty t)
  groups_norm {t} h = record { count = omega (arith, h.count, size_keep unless_empty t); sorted = sorted_keep unless_empty group_norm h.sorted }

  pub groups_fine : {t : Table (Table B)} → TableFine MapNorm t → TableFine (TableFine Fine) t
  groups_fine h = record { count = h.count; sorted = sorted_imp (λ k v p. (p.0, p.1.fine)) h.sorted }

  pub groups_stay : {t : Table (Table B)} → TableFine MapNorm t → keep_rows unless_empty t ≡ t
  groups_stay h = keep_all unless_empty (λ k v p. keep_rows_lem p.1.rows) h.sorted

  -- answers tell them apart
  group_loud : (k : ℕ) (u : Table B) → RowFine MapNorm k u → (j : ℕ) × (x : B) × (lookup j u ≡ some x)
  group_loud k u p = row_found p.1.rows

  group_sure : (k : ℕ) (u w : Table B) → RowFine MapNorm k u → RowFine MapNorm k w → ((j : ℕ) → lookup j u ≡ lookup j w) → u ≡ w
  group_sure k u w p q h = same_lookups p.1.fine.sorted q.1.fine.sorted h

  pub groups_loud : {t : Table (Table B)} → NonEmpty t → TableFine MapNorm t → (k : ℕ) × (j : ℕ) × (x : B) × (some_then (lookup k t) (lookup j) ≡ some x)
  groups_loud n h = table_loud (λ j u. lookup j u) (RowFine MapNorm) group_loud group_sure h.sorted n

  pub groups_sure : {s t : Table (Table B)} → TableFine MapNorm s → TableFine MapNorm t → ((k j : ℕ) → some_then (lookup k s) (lookup j) ≡ some_then (lookup k t) (lookup j)) → s ≡ t
  groups_sure a b h = table_sure (λ j u. lookup j u) (RowFine MapNorm) group_loud group_sure a.sorted b.sorted h
