-- A rewriting that is as long as its payload is the payload: every number was in its fewest bytes already, and nothing empty was left out.
use Rattle.std.specs.Prelude.{ℕ, ◌+◌, ◌≤◌, List, ◌≡◌}
use Rattle.std.proofs.Math.Option.{some}
use Rattle.std.proofs.Math.Path.{refl, sym, ap}
use Rattle.std.proofs.Common.{◌∙◌, arith}
use Rattle.std.proofs.Math.ListN.{length, length-append}
use Rattle.format.specs.Bytes.{Bytes}
use Rattle.format.specs.Reading.{got, Reader, accepted}
use Rattle.format.specs.Numbers.{shortest}
use Rattle.format.specs.Parts.{Part}
use Rattle.format.specs.Tables.{Table, row, size, table}
use Rattle.format.specs.Names.{Kind, Content, names_by, payload, judge_names}
use Rattle.format.specs.Metadata.{metadata, judge_metadata}
use Rattle.format.specs.Canonical.{write_part, write_rows, write_table, unless_empty, keep_rows, trim, write_content, write_subsections, rewrite_names, canonical_names, rewrite_metadata, canonical_of}
use Rattle.format.specs.Laws.Options.{some_is, in_then, by_option}
use Rattle.format.specs.Laws.Outcomes.{in_turn, ended, judged, mapped}
use Rattle.format.proofs.Laws.Numbers.{shortest_mono, shortest_positive}
use Rattle.format.specs.Laws.Tight.{tight_whole}
use Rattle.format.proofs.Laws.Codecs.{Codec, Sorted, end, next, table_codec, write_part_mono}
use Rattle.format.proofs.Laws.Tables.{size_keep, kept_rows, rows_shorter}
use Rattle.format.proofs.Laws.Groups.{groups_shorter}
use Rattle.format.proofs.Laws.Names.{ContentFine, single_fine, names_fine_lem, names_by_fine, whole_fine, SubFine, payload_sound}
use Rattle.format.proofs.Laws.Trimming.{trim_shorter}
use Rattle.format.proofs.Laws.CanonicalNames.{subsections_shorter}

-- What is left out makes a writing shorter: where it is as long, nothing was left out
module _ {B : Type 0} (write : Table B → List ℕ) where
  rows_shrink : {P : ℕ → Table B → Type 0} {t : Table (Table B)} {least : ℕ} → Sorted P least t → length (write_rows write (keep_rows unless_empty t)) ≤ length (write_rows write t)
  rows_shrink s = rows_shorter unless_empty write write (λ k v w _ e. rw (kept_rows v e).0 (omega arith)) s

  row_length : (k : ℕ) (v : Table B) (t : Table (Table B)) → length (write_rows write (row k v t)) ≡ length (shortest k) + (length (write v) + length (write_rows write t))
  unfolding write_rows
  row_length k v t = simp length-append refl

  rows_stay : {P : ℕ → Table B → Type 0} {t : Table (Table B)} {least : ℕ} → Sorted P least t → length (write_rows write (keep_rows unless_empty t)) ≡ length (write_rows write t) → keep_rows unless_empty t ≡ t
  unfolding keep_rows
  rows_stay end long = refl
  rows_stay (next {k = k} {v = v} {t = t} l p s) long =
      by_option (unless_empty v)
      (λ n. absurd (omega (arith, rw n at long, row_length k v t, shortest_positive k, rows_shrink s)))
      (λ w n. let is = (kept_rows v n).0 in
      rw (n, ← is) (ap (row k v) (rows_stay s (omega (arith, rw (n, ← is) at long, row_length k v t, row_length k v (keep_rows unless_empty t))))))

  pub groups_unchanged : {P : ℕ → Table B → Type 0} {t : Table (Table B)} {least : ℕ} → Sorted P least t → length (write_table write (keep_rows unless_empty t)) ≡ length (write_table write t) → keep_rows unless_empty t ≡ t
  unfolding write_table
  groups_unchanged {t = t} s long =
      let kept : Table (Table B) = keep_rows unless_empty t in
      let fewer = shortest_mono (size kept) (size t) (size_keep unless_empty t) in
      rows_stay s (omega (arith, long, length-append (shortest (size t)) (write_rows write t), length-append (shortest (size kept)) (write_rows write kept), fewer, rows_shrink s))

trim_unchanged : {k : Kind} {c d : Content (List ℕ)} → ContentFine k c → trim c ≡ some d → length (write_content d) ≡ length (write_content c) → d ≡ c
unfolding write_content
trim_unchanged (single_fine h) e long = sym (some_is e)
trim_unchanged (names_fine_lem {t = t} h) e long = in_then (unless_empty t) _ e λ u e₁ e₂. sym (some_is e₂) ∙ rw (kept_rows t e₁).0
trim_unchanged (names_by_fine {t = t} h) e long =
    in_then (unless_empty (keep_rows unless_empty t)) _ e λ u e₁ e₂.
    let is = sym (some_is e₂) ∙ ap names_by (sym (kept_rows (keep_rows unless_empty t) e₁).0) in
    is ∙ ap names_by (groups_unchanged (write_table write_part) h.sorted (rw is at long))
trim_unchanged whole_fine e long = sym (some_is e)

-- a part that is as long with its size is as long without
part_length : (x y : List ℕ) → length x ≤ length y → length (write_part x) ≡ length (write_part y) → length x ≡ length y
unfolding write_part
part_length x y h long = omega (arith, long, length-append (shortest (length x)) x, length-append (shortest (length y)) y, shortest_mono (length x) (length y) h, h)

module _ (kind_of : ℕ → Kind) where
  subsections_unchanged : {t : Table (Content (List ℕ))} {least : ℕ} → Sorted (SubFine kind_of) least t → length (write_subsections (keep_rows trim t)) ≡ length (write_subsections t) → keep_rows trim t ≡ t
  unfolding keep_rows write_subsections
  subsections_unchanged end long = refl
  subsections_unchanged (next {k = id} {v = c} {t = t} l p s) long =
      let lengths = length-append (write_part (write_content c)) (write_subsections t) in
      let short = subsections_shorter kind_of s in
      by_option (trim c)
      (λ n. absurd (omega (arith, rw n at long, lengths, short)))
      (λ d n.
      let lengths' = length-append (write_part (write_content d)) (write_subsections (keep_rows trim t)) in
      let short' = trim_shorter p.0 n in
      let parts = write_part_mono (write_content d) (write_content c) short' in
      let long' = rw n at long in
      let is = trim_unchanged p.0 n (part_length (write_content d) (write_content c) short' (omega (arith, long', lengths, lengths', short, parts))) in
      rw (n, is) (ap (row id c) (subsections_unchanged s (omega (arith, long', lengths, lengths', short, parts)))))

  -- Name payloads, over any table of ids
  pub payload_tight : (o : ℕ) (bs : List ℕ) {t : Table (Content Part)} {o' : ℕ} {rest : List ℕ} → Bytes bs → payload kind_of o bs ≡ got t o' rest → length (rewrite_names t) ≡ length bs → rewrite_names t ≡ bs
  unfolding rewrite_names
  payload_tight o bs {rest = rest} h e long =
      let r = payload_sound kind_of o bs e in
      let short = subsections_shorter kind_of r.sorted in
      let stays = subsections_unchanged r.sorted (omega (arith, long, short, r.shorter)) in
      ap write_subsections stays ∙ tight_whole rest r.tight r.shorter h (omega (arith, long, short, r.shorter))

  pub names_unchanged : (p x : List ℕ) → Bytes p → canonical_names kind_of p ≡ accepted x → length x ≡ length p → x ≡ p
  unfolding canonical_names judge_names
  names_unchanged p x h c long = mapped rewrite_names (judge_names kind_of 0 p) c λ t e is. judged (payload kind_of 0 p) e λ o rest r. sym is ∙ payload_tight 0 p h r (ap length is ∙ long)

-- Code metadata, over any item
module _ {item : Reader Part} {Fine : List ℕ → Type 0} (codec : Codec item (λ p. p.bytes) write_part Fine) where
  pub functions_tight : (o : ℕ) (bs : List ℕ) {t : Table (Table Part)} {o' : ℕ} {rest : List ℕ} → Bytes bs → table (table item) o bs ≡ got t o' rest → length (rewrite_metadata t) ≡ length bs → rewrite_metadata t ≡ bs
  unfolding rewrite_metadata
  functions_tight o bs {rest = rest} h e long =
      let r = (table_codec (table_codec codec)).sound o bs e in
      let short = groups_shorter (write_table write_part) r.fine.sorted in
      let stays = groups_unchanged (write_table write_part) r.fine.sorted (omega (arith, long, short, r.shorter)) in
      ap (write_table (write_table write_part)) stays ∙ tight_whole rest r.tight r.shorter h (omega (arith, long, short, r.shorter))

  pub items_unchanged : (p x : List ℕ) → Bytes p → canonical_of item p ≡ accepted x → length x ≡ length p → x ≡ p
  unfolding canonical_of judge_metadata metadata
  items_unchanged p x h c long =
      mapped rewrite_metadata (judge_metadata item 0 p) c λ t e is. judged (metadata item 0 p) e λ o rest r.
      in_turn (table (table item) 0 p) _ r λ u o₁ r₁ e₁ e₂. ended u o₁ r₁ e₂ λ _ same.
      let written : rewrite_metadata u ≡ x = ap rewrite_metadata same ∙ is in
      sym written ∙ functions_tight 0 p h e₁ (ap length written ∙ long)
