-- What a metadata payload is told to be, over any item.
use Prim.Native.Nat.{ℕ, zero, suc, ◌+◌}
use Rattle.std.specs.Prelude.{false, ◌≡◌, eqb, ltb, length}
use mathlib.Core.List.{List, [], ◌∷◌}
use Rattle.std.proofs.Math.Path.{refl, ap}
use Rattle.std.proofs.Common.{sym, ◌∙◌, arith}
use borrow.Author.Tests.{eqb-true, eqb-false, ne_eqb}
use Rattle.format.specs.Bytes.{Bytes, same}
use Rattle.format.specs.Reading.{got, Reader, at_end, judge, map_judged}
use Rattle.format.specs.Numbers.{number, groups, shortest, fewest}
use Rattle.format.specs.Options.{map_some}
use Rattle.format.specs.Parts.{Part}
use Rattle.format.specs.Tables.{Table, nil, row, size, map_table, rows, table}
use Rattle.format.specs.Metadata.{metadata, judge_metadata}
use Rattle.format.specs.Canonical.{write_part, write_rows, write_table, unless_empty, keep_rows, bare_items, rewrite_metadata, canonical_of}
use Rattle.format.specs.Forms.{told_by, told, told_end, is_yes, part_form, table_form}
use Rattle.format.specs.Telling.{as_few, is_its_rewriting, items_are_canonical}
use Rattle.format.specs.Laws.Bytes.{same_true, same_self}
use Rattle.format.specs.Laws.Outcomes.{by_test, by_outcome}
use Rattle.format.proofs.Laws.Codecs.{Codec}
use Rattle.format.proofs.Laws.Unchanged.{functions_tight}
use Rattle.format.proofs.Laws.TellingNames.{lists_form, left_over}

-- what differs in length is not the same
other_length : (x y : List ℕ) → (length x ≡ length y → ⊥) → same x y ≡ false
other_length x y n = by_test (same x y) (λ q. absurd (n (ap length (same_true x y q)))) (λ q. q)

-- "A metadata payload with nothing left is the one byte 00": so of one byte, only that is canonical
module _ (item : Reader Part) where
  pub one_byte_told : (b : ℕ) → items_are_canonical item (b ∷ []) ≡ eqb b 0
  unfolding items_are_canonical is_its_rewriting canonical_of judge_metadata metadata table number groups rows rewrite_metadata keep_rows map_table write_table write_rows size shortest fewest same
  one_byte_told zero = refl
  one_byte_told (suc b) = rw (ne_eqb (suc b) 0 (λ e. absurd (omega arith))) (by_test (ltb (suc b) 128) (λ t. rw t) (λ t. rw t))

module _ {item : Reader Part} {Fine : List ℕ → Type 0} (codec : Codec item (λ p. p.bytes) write_part Fine) where
  -- nothing but the count is left of functions without items
  nothing_left : (t : Table (Table Part)) → keep_rows unless_empty (bare_items t) ≡ nil → length (rewrite_metadata t) ≡ 1
  unfolding rewrite_metadata write_table write_rows size shortest fewest
  nothing_left t e = rw e

  -- of other lengths a payload is canonical exactly where its lists are told so, and fill it
  pub lists_told : (bs : List ℕ) → Bytes bs → (length bs ≡ 1 → ⊥) → items_are_canonical item bs ≡ is_yes (told_end (told (table_form (table_form part_form)) bs (table (table item) 0 bs)))
  unfolding items_are_canonical is_its_rewriting canonical_of judge_metadata metadata rewrite_metadata unless_empty
  lists_told bs h n = by_outcome (table (table item) 0 bs) (λ t o rest e. rw e (by_rest t o rest e)) (λ m at e. rw e)
    where
      -- by what is left of the functions
      whole_told : (t : Table (Table Part)) (o : ℕ) → table (table item) 0 bs ≡ got t o [] → (k : Table (Table (List ℕ))) → keep_rows unless_empty (bare_items t) ≡ k → same (rewrite_metadata t) bs ≡ is_yes (told_end (told_by (map_some (write_table (write_table write_part)) (unless_empty k)) o [] bs))
      whole_told t o e nil q = other_length (rewrite_metadata t) bs (λ l. n (sym l ∙ nothing_left t q))
      whole_told t o e (row f u k) q =
          let is : rewrite_metadata t ≡ write_table (write_table write_part) (row f u k) = ap (write_table (write_table write_part)) q in
          rw (← is) (by_test (as_few (rewrite_metadata t) [] bs)
          (λ s. let long = eqb-true (length (rewrite_metadata t) + 0) (length bs) s in
          rw (s, functions_tight codec 0 bs h e (omega arith)) (same_self bs))
          (λ s. let less = eqb-false (length (rewrite_metadata t) + 0) (length bs) s in
          rw s (other_length (rewrite_metadata t) bs (λ l. omega arith))))

      by_rest : (t : Table (Table Part)) (o : ℕ) (rest : List ℕ) → table (table item) 0 bs ≡ got t o rest → is_its_rewriting (map_judged rewrite_metadata (judge (at_end t o rest))) bs ≡ is_yes (told_end (told_by (table_form (table_form part_form) t) o rest bs))
      by_rest t o [] e = rw (lists_form t) (whole_told t o e (keep_rows unless_empty (bare_items t)) refl)
      by_rest t o (b ∷ rest) e = ap is_yes (sym (left_over (table_form (table_form part_form) t) o b rest bs))
