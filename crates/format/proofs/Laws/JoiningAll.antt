-- K3. All subsections of two payloads joined, over any table of ids: every answer is the first of both, what is left of the join is the join of what is left, it is no longer than both, and it is normal where no subsection is too large.
use Rattle.std.specs.Prelude.{ℕ, ◌+◌, ◌≤◌, ◌<◌, true, false, List, ◌↔◌, ◌≡◌, ltb, length}
use Rattle.std.proofs.Math.Path.{refl}
use Rattle.std.proofs.Common.{sym, arith}
use borrow.Author.Tests.{ltb-true, ltb-false, lt-ltb, le-ltb}
use Rattle.std.proofs.Math.ListN.{length-append}
use Rattle.format.specs.Numbers.{limit32}
use Rattle.format.specs.Options.{or_else}
use Rattle.format.specs.Parts.{Part}
use Rattle.format.specs.Tables.{Table, nil, row, lookup, map_table}
use Rattle.format.specs.Names.{Kind, Content}
use Rattle.format.specs.Questions.{answer_in, answer}
use Rattle.format.specs.declared.Query.{Query}
use Rattle.format.specs.Holding.{Has, first, later}
use Rattle.format.specs.Canonical.{write_part, row_if, keep_rows, trim, bare, write_content, write_subsections}
use Rattle.format.specs.Joined.{join_content, joined, all_fit}
use Rattle.format.specs.Laws.Outcomes.{by_test, false_true, on_both, and_false}
use Rattle.format.specs.Laws.Options.{by_option, or_none}
use Rattle.format.proofs.Laws.Codecs.{Fits32, Sorted, end, next}
use Rattle.format.proofs.Laws.Tables.{lookup_fine}
use Rattle.format.proofs.Laws.Names.{SubFine}
use Rattle.format.proofs.Laws.Trimming.{ContentNorm}
use Rattle.format.proofs.Laws.CanonicalNames.{SubNorm}
use Rattle.format.proofs.Laws.Merging.{by_order, sorted_row, merge_no_left, merge_no_right, merge_left, merge_right, merge_both, merge_sorted, lookup_merged, keep_left, keep_right, keep_both, map_merged, keep_merged}
use Rattle.format.proofs.Laws.Joining.{join_norm, join_answer, join_trim, join_length, join_part_length, join_bare}

abbrev Subsections : Type 0
Subsections = Table (Content (List ℕ))

-- Subsection by subsection, as far as something is left
pub joined_no_left : (u : Subsections) → joined nil u ≡ u
unfolding joined
joined_no_left u = merge_no_left join_content u

pub joined_no_right : (t : Subsections) → joined t nil ≡ t
unfolding joined
joined_no_right t = merge_no_right join_content t

module _ (i j : ℕ) (c d : Content (List ℕ)) (t u : Subsections) where
  pub joined_left : i < j → keep_rows trim (joined (row i c t) (row j d u)) ≡ row_if i (trim c) (keep_rows trim (joined t (row j d u)))
  unfolding joined
  joined_left h = keep_left join_content trim i j c d t u h

  pub joined_right : j < i → keep_rows trim (joined (row i c t) (row j d u)) ≡ row_if j (trim d) (keep_rows trim (joined (row i c t) u))
  unfolding joined
  joined_right h = keep_right join_content trim i j c d t u h

  pub joined_both : i ≡ j → keep_rows trim (joined (row i c t) (row j d u)) ≡ row_if i (trim (join_content c d)) (keep_rows trim (joined t u))
  unfolding joined
  joined_both h = keep_both join_content trim i j c d t u h

pub joined_bare : (t u : Table (Content Part)) → map_table bare (joined t u) ≡ joined (map_table bare t) (map_table bare u)
unfolding joined
joined_bare t u = map_merged join_content join_content bare join_bare t u

-- None is too large in what is short
pub short_fits : (t : Subsections) → length (write_subsections t) < limit32 → all_fit t ≡ true
unfolding all_fit write_subsections write_part
short_fits nil h = refl
short_fits (row id c t) h = let h' = simp length-append at h in rw (lt-ltb (length (write_content c)) limit32 (omega (arith, h'))) (short_fits t (omega (arith, h')))

-- and one is where its contents have that many bytes, exactly
some_large : (t : Subsections) → all_fit t ≡ false → (id : ℕ) × (c : Content (List ℕ)) × Has id c t × (limit32 ≤ length (write_content c))
unfolding all_fit
some_large nil e = false_true (sym e)
some_large (row i d t) e =
    by_test (ltb (length (write_content d)) limit32)
    (λ b. let (id, c, has, large) = some_large t (rw b at e) in (id, c, later has, large))
    (λ b. (i, d, first, ltb-false (length (write_content d)) limit32 b))

large_found : {id : ℕ} {c : Content (List ℕ)} {t : Subsections} → Has id c t → limit32 ≤ length (write_content c) → all_fit t ≡ false
unfolding all_fit
large_found {c = c} first h = rw (le-ltb (length (write_content c)) limit32 h)
large_found (later {w = d} {t = t} has) h = rw (large_found has h) (and_false (ltb (length (write_content d)) limit32))

pub large_exactly : (t : Subsections) → (all_fit t ≡ false) ↔ ((id : ℕ) × (c : Content (List ℕ)) × Has id c t × (limit32 ≤ length (write_content c)))
large_exactly t = (some_large t, λ h. large_found h.2 h.3)

-- All subsections
module _ (kind_of : ℕ → Kind) where
  pub joined_answers : {t u : Subsections} → Sorted (SubFine kind_of) 0 t → Sorted (SubFine kind_of) 0 u → (id : ℕ) (q : Query) → answer id q (joined t u) ≡ or_else (answer id q t) (answer id q u)
  unfolding answer joined
  joined_answers {t} {u} r s id q =
      rw (lookup_merged join_content id t u r s) (by_option (lookup id t)
      (λ n. rw n)
      (λ c e. rw e (by_option (lookup id u)
      (λ n. rw n (sym (or_none (answer_in q c))))
      (λ d e'. rw e' (join_answer q (lookup_fine id r e).0 (lookup_fine id s e').0)))))

  pub joined_trim : {t u : Subsections} → Sorted (SubFine kind_of) 0 t → Sorted (SubFine kind_of) 0 u → keep_rows trim (joined t u) ≡ joined (keep_rows trim t) (keep_rows trim u)
  unfolding joined
  joined_trim {t} {u} r s = keep_merged join_content join_content trim (λ id c d p q. join_trim p.0 q.0) t u r s

  pub joined_length : (t u : Subsections) {least least' : ℕ} → Sorted (SubFine kind_of) least t → Sorted (SubFine kind_of) least' u → length (write_subsections (joined t u)) ≤ length (write_subsections t) + length (write_subsections u)
  unfolding joined write_subsections
  joined_length nil u r s = rw (merge_no_left join_content u) (omega arith)
  joined_length (row i c t) nil r s = rw (merge_no_right join_content (row i c t)) (omega arith)
  joined_length (row i c t) (row j d u) r s =
      let (l, p, r') = sorted_row r in
      let (m, q, s') = sorted_row s in
      by_order i j
      (λ h. rw (merge_left join_content i j c d t u h) (simp length-append (omega (arith, simp length-append at (joined_length t (row j d u) r' s)))))
      (λ h. rw (merge_right join_content i j c d t u h) (simp length-append (omega (arith, simp length-append at (joined_length (row i c t) u r s')))))
      (λ h. rw (merge_both join_content i j c d t u h) (simp length-append (omega (arith, joined_length t u r' s', join_part_length (write_content (join_content c d)) (write_content c) (write_content d) (join_length p.0 (rw (← h) at q).0)))))

  -- normal, where none is too large
  abbrev NormIfFits : ℕ → Content (List ℕ) → Type 0
  NormIfFits id c = Fits32 (length (write_content c)) → ContentNorm (kind_of id) c

  all_fit_lem : {t : Subsections} {least : ℕ} → Sorted NormIfFits least t → all_fit t ≡ true → Sorted (SubNorm kind_of) least t
  unfolding all_fit
  all_fit_lem end h = end
  all_fit_lem (next {v = c} {t = t} l p s) h = on_both (ltb (length (write_content c)) limit32) (all_fit t) h λ here more. let fits = ltb-true (length (write_content c)) limit32 here in next l (p fits, fits) (all_fit_lem s more)

  pub joined_norm : {t u : Subsections} {least : ℕ} → Sorted (SubNorm kind_of) least t → Sorted (SubNorm kind_of) least u → all_fit (joined t u) ≡ true → Sorted (SubNorm kind_of) least (joined t u)
  unfolding joined
  joined_norm {t} {u} r s h = all_fit_lem (merge_sorted join_content (λ id c p _. p.0) (λ id d q _. q.0) (λ id c d p q fits. join_norm p.0 q.0 fits) t u r s) h

  -- and none is in what is normal
  pub normal_fits : {t : Subsections} {least : ℕ} → Sorted (SubNorm kind_of) least t → all_fit t ≡ true
  unfolding all_fit
  normal_fits end = refl
  normal_fits (next {v = c} l p s) = rw (lt-ltb (length (write_content c)) limit32 p.1) (normal_fits s)
