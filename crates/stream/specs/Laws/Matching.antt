-- A name that is compared byte by byte is compared as the walk does.
use Rattle.std.specs.Prelude.{ℕ, suc, ◌≤◌, Bool, false, ◌&&◌, List, [], ◌∷◌, ◌≡◌, ltb, leb, eqb, length, drop, get_or}
use Rattle.std.proofs.Math.Path.{sym}
use Rattle.std.proofs.Common.{◌∙◌, arith, drop_of_length-le}
use borrow.Author.Tests.{ltb-true, ltb-false, leb-true, leb-false, le-leb, lt-leb, eq-eqb, ne_eqb}
use Rattle.std.proofs.Math.Dec.{leb-zero}
use Rattle.std.proofs.Math.Seq.{drop-cons}
use Rattle.format.specs.Bytes.{same}
use Rattle.format.specs.Laws.Outcomes.{by_test, and_false}
use Rattle.stream.specs.Naming.{match_byte, match_ends}

module _ (x : List ℕ) where
  -- whether the rest makes it that name
  unfoldable pub is_match : ℕ → List ℕ → Bool
  is_match met bs = leb met (length x) && same (drop met x) bs

  pub match_first : (bs : List ℕ) → same x bs ≡ is_match 0 bs
  unfolding is_match
  match_first bs = rw (leb-zero (length x))

  another : (bs : List ℕ) → is_match (suc (length x)) bs ≡ false
  unfolding is_match
  another bs = rw (lt-leb (suc (length x)) (length x) (omega arith))

  -- a byte behind its end
  too_long : (met b : ℕ) (bs : List ℕ) → length x ≤ met → is_match met (b ∷ bs) ≡ false
  unfolding is_match same
  too_long met b bs h = rw (drop_of_length-le x h) (and_false (leb met (length x)))

  pub match_byte_lem : (met b : ℕ) (bs : List ℕ) → is_match met (b ∷ bs) ≡ is_match (match_byte x met b) bs
  unfolding is_match match_byte same
  match_byte_lem met b bs =
      by_test (ltb met (length x))
      (λ t. let h = ltb-true met (length x) t in
      rw (t, le-leb met (length x) (omega arith), drop-cons x met 0 h)
      (by_test (eqb (get_or x met 0) b)
      (λ u. rw (u, t))
      (λ u. rw u (sym (another bs)))))
      (λ t. rw t (too_long met b bs (ltb-false met (length x) t) ∙ sym (another bs)))

  pub match_ends_lem : (met : ℕ) → is_match met [] ≡ match_ends x met
  unfolding is_match match_ends same
  match_ends_lem met =
      by_test (ltb met (length x))
      (λ t. let h = ltb-true met (length x) t in rw (drop-cons x met 0 h, ne_eqb met (length x) (λ e. omega arith)) (and_false (leb met (length x))))
      (λ t. let h = ltb-false met (length x) t in
      rw (drop_of_length-le x h)
      (by_test (leb met (length x))
      (λ u. let k = leb-true met (length x) u in rw (u, eq-eqb met (length x) (omega arith)))
      (λ u. let k = leb-false met (length x) u in rw (u, ne_eqb met (length x) (λ e. omega arith)))))
