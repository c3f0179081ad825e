-- What canonical rewriting leaves of a subsection: every answer is kept, nothing gets longer, what is canonical stays, and answers tell canonical contents apart.
use Rattle.std.specs.Prelude.{ℕ, ◌≤◌, List, ◌≡◌, refl, length}
use Rattle.std.proofs.Math.Option.{Option, none, some}
use Rattle.std.proofs.Common.{sym, ap, ◌∙◌, arith}
use Rattle.format.specs.Options.{some_then}
use Rattle.format.specs.Tables.{Table, nil, row, lookup}
use Rattle.format.specs.Names.{Kind, one_name, name_map, indirect_map, kept, Content, single, names, names_by, whole}
use Rattle.format.specs.Questions.{answer_in}
use Rattle.format.specs.declared.Query.{Query}
use Rattle.format.specs.declared.Query.TheVariants.{ItsName, ItsContents, NameOf, NameWithin}
use Rattle.format.specs.Canonical.{write_part, write_table, unless_empty, keep_rows, trim, write_content}
use Rattle.format.specs.Laws.Options.{some_is, in_then}
use Rattle.format.proofs.Laws.Codecs.{TableFine}
use Rattle.format.proofs.Laws.Tables.{same_lookups, NonEmpty, kept_rows, keep_rows_lem, row_found}
use Rattle.format.proofs.Laws.Groups.{groups_answer, groups_shorter, MapNorm, groups_norm, groups_fine, groups_stay, groups_loud, groups_sure}
use Rattle.format.proofs.Laws.Names.{NameFine, ContentFine, single_fine, names_fine_lem, names_by_fine, whole_fine}

-- well formed, and nothing empty is left in it
pub data ContentNorm : Kind → Content (List ℕ) → Type 0 where
  single_norm : {x : List ℕ} → NameFine x → ContentNorm one_name (single x)
  names_norm_lem : {t : Table (List ℕ)} → MapNorm NameFine t → ContentNorm name_map (names t)
  names_by_norm : {t : Table (Table (List ℕ))} → NonEmpty t → TableFine (MapNorm NameFine) t → ContentNorm indirect_map (names_by t)
  whole_norm : {x : List ℕ} → ContentNorm kept (whole x)

pub norm_fine : {k : Kind} {c : Content (List ℕ)} → ContentNorm k c → ContentFine k c
norm_fine (single_norm h) = single_fine h
norm_fine (names_norm_lem h) = names_fine_lem h.fine
norm_fine (names_by_norm n h) = names_by_fine (groups_fine NameFine h)
norm_fine whole_norm = whole_fine

pub trim_norm : {k : Kind} {c d : Content (List ℕ)} → ContentFine k c → trim c ≡ some d → ContentNorm k d
trim_norm (single_fine h) e = rw (← some_is e) (single_norm h)
trim_norm (names_fine_lem {t = t} h) e =
    in_then (unless_empty t) _ e λ u e₁ e₂. let (q, n) = kept_rows t e₁ in
    rw (← some_is e₂) (names_norm_lem (record { rows = n; fine = rw q at h }))
trim_norm (names_by_fine {t = t} h) e =
    in_then (unless_empty (keep_rows unless_empty t)) _ e λ u e₁ e₂. let (q, n) = kept_rows (keep_rows unless_empty t) e₁ in
    rw (← some_is e₂) (names_by_norm n (rw q at (groups_norm NameFine h)))
trim_norm whole_fine e = rw (← some_is e) whole_norm

-- what is as it should be stays
pub trim_stay : {k : Kind} {c : Content (List ℕ)} → ContentNorm k c → trim c ≡ some c
trim_stay (single_norm h) = refl
trim_stay (names_norm_lem h) = rw (keep_rows_lem h.rows)
trim_stay (names_by_norm {t = t} n h) = rw (groups_stay NameFine h, keep_rows_lem n)
trim_stay whole_norm = refl

-- every answer is kept
rows_then : {A : Type 0} (t : Table A) (make : Table A → Content (List ℕ)) (g : Content (List ℕ) → Option (List ℕ)) → g (make nil) ≡ none → some_then (some_then (unless_empty t) (λ u. some (make u))) g ≡ g (make t)
unfolding unless_empty
rows_then nil make g h = sym h
rows_then (row k v t) make g h = refl

no_names : (q : Query) → answer_in {X = List ℕ} q (names nil) ≡ none
unfolding lookup
no_names ItsName = refl
no_names ItsContents = refl
no_names (NameOf k) = refl
no_names (NameWithin k j) = refl

no_groups : (q : Query) → answer_in {X = List ℕ} q (names_by nil) ≡ none
unfolding lookup
no_groups ItsName = refl
no_groups ItsContents = refl
no_groups (NameOf k) = refl
no_groups (NameWithin k j) = refl

groups_answered : {t : Table (Table (List ℕ))} → TableFine (TableFine NameFine) t → (q : Query) → answer_in q (names_by (keep_rows unless_empty t)) ≡ answer_in q (names_by t)
groups_answered h ItsName = refl
groups_answered h ItsContents = refl
groups_answered h (NameOf k) = refl
groups_answered h (NameWithin k j) = groups_answer h.sorted k j

pub trim_answer : {k : Kind} {c : Content (List ℕ)} → ContentFine k c → (q : Query) → some_then (trim c) (answer_in q) ≡ answer_in q c
trim_answer (single_fine h) q = refl
trim_answer (names_fine_lem {t = t} h) q = rows_then t names (answer_in q) (no_names q)
trim_answer (names_by_fine {t = t} h) q = rows_then (keep_rows unless_empty t) names_by (answer_in q) (no_groups q) ∙ groups_answered h q
trim_answer whole_fine q = refl

-- nothing gets longer
pub trim_shorter : {k : Kind} {c d : Content (List ℕ)} → ContentFine k c → trim c ≡ some d → length (write_content d) ≤ length (write_content c)
unfolding write_content
trim_shorter (single_fine h) e = rw (← some_is e) (omega arith)
trim_shorter (names_fine_lem {t = t} h) e =
    in_then (unless_empty t) _ e λ u e₁ e₂. rw (← some_is e₂, ← (kept_rows t e₁).0) (omega arith)
trim_shorter (names_by_fine {t = t} h) e =
    in_then (unless_empty (keep_rows unless_empty t)) _ e λ u e₁ e₂.
    rw (← some_is e₂, ← (kept_rows (keep_rows unless_empty t) e₁).0)
    (groups_shorter (write_table write_part) h.sorted)
trim_shorter whole_fine e = rw (← some_is e) (omega arith)

-- answers tell contents apart
pub norm_loud : {k : Kind} {c : Content (List ℕ)} → ContentNorm k c → (q : Query) × (x : List ℕ) × (answer_in q c ≡ some x)
norm_loud (single_norm {x = x} h) = (ItsName, x, refl)
norm_loud (names_norm_lem h) = let (k, x, e) = row_found h.rows in (NameOf k, x, e)
norm_loud (names_by_norm n h) =
    let (k, j, x, e) = groups_loud NameFine n h in (NameWithin k j, x, e)
norm_loud (whole_norm {x = x}) = (ItsContents, x, refl)

pub norm_sure : {k : Kind} {c d : Content (List ℕ)} → ContentNorm k c → ContentNorm k d → ((q : Query) → answer_in q c ≡ answer_in q d) → c ≡ d
norm_sure (single_norm a) (single_norm b) h = ap single (some_is (h ItsName))
norm_sure (names_norm_lem a) (names_norm_lem b) h = ap names (same_lookups a.fine.sorted b.fine.sorted (λ k. h (NameOf k)))
norm_sure (names_by_norm n a) (names_by_norm m b) h =
    ap names_by (groups_sure NameFine a b (λ k j. h (NameWithin k j)))
norm_sure whole_norm whole_norm h = ap whole (some_is (h ItsContents))
