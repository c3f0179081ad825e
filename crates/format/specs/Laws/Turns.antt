-- Readings that went well, taken apart once for all laws: a sized part, one that passes a test, a row and those after it, a subsection and those after it, a section and those after it.
use Rattle.std.specs.Prelude.{ℕ, suc, ◌+◌, ◌≤◌, Bool, true, false, not, ◌&&◌, ◌||◌, List, ◌∷◌, ◌≡◌, ltb, leb, length, take, drop}
use Rattle.std.proofs.Math.Option.{Option, none, some}
use Rattle.std.proofs.Common.{leb-true, le-leb}
use Rattle.format.specs.Reading.{got, Reader, and_then, ◌>>◌, return, checked}
use Rattle.format.specs.Numbers.{number}
use Rattle.format.specs.Parts.{Part, sized, inside}
use Rattle.format.specs.Tables.{Table, row, rows, table}
use Rattle.format.specs.Names.{Kind, Content, contents, subsections}
use Rattle.format.specs.Walk.{greatest_id, is_custom, is_data, rank, custom, name_row, before_code, row_of, Section, Seen, seeing, id_rules, name_rules, section, sections}
use Rattle.format.specs.Laws.Outcomes.{not_got, got_value, got_next, got_rest, in_turn, passed, in_part}
use Rattle.format.specs.declared.Reason.{Reason}

pub in_sized {ℓ} : {C : Type ℓ} (o : ℕ) (bs : List ℕ) {p : Part} {o' : ℕ} {rest : List ℕ} → sized o bs ≡ got p o' rest
    → ((n o₁ : ℕ) (r₁ : List ℕ) → number o bs ≡ got n o₁ r₁ → n ≤ length r₁ → record { at = o₁; bytes = take n r₁ } ≡ p → o₁ + n ≡ o' → drop n r₁ ≡ rest → C) → C
unfolding sized
in_sized o bs e k =
    in_turn (number o bs) _ e λ n o₁ r₁ e₁ e₂. passed (leb n (length r₁)) _ _ _ _ _ e₂ λ t e₃.
    k n o₁ r₁ e₁ (leb-true n (length r₁) t) (got_value e₃) (got_next e₃) (got_rest e₃)

-- a sized part that passes a test, as a name or a hint does; `spot` is where the refusal points
module _ (test : List ℕ → Bool) (why : Reason) (spot : ℕ → Part → ℕ) where
  abbrev pub tested : Reader Part
  tested o bs = and_then (sized o bs) (λ p. checked (test p.bytes) why (spot o p) >> return p)

  pub in_tested {ℓ} : {C : Type ℓ} (o : ℕ) (bs : List ℕ) {p : Part} {o' : ℕ} {rest : List ℕ} → tested o bs ≡ got p o' rest
      → (sized o bs ≡ got p o' rest → test p.bytes ≡ true → C) → C
  in_tested o bs e k =
      in_turn (sized o bs) _ e λ p o₁ r₁ e₁ e₂. passed (test p.bytes) _ _ _ _ _ e₂ λ t e₃.
      k (rw e₃ at e₁) (rw (got_value e₃) at t)

module _ {A : Type 0} (read : Reader A) where
  pub in_row {ℓ} : {C : Type ℓ} (n least o : ℕ) (bs : List ℕ) {t : Table A} {o' : ℕ} {rest : List ℕ} → rows read (suc n) least o bs ≡ got t o' rest
      → ((k o₁ : ℕ) (r₁ : List ℕ) (v : A) (o₂ : ℕ) (r₂ : List ℕ) (more : Table A) → number o bs ≡ got k o₁ r₁ → least ≤ k → read o₁ r₁ ≡ got v o₂ r₂ → rows read n (suc k) o₂ r₂ ≡ got more o' rest → row k v more ≡ t → C) → C
  unfolding rows
  in_row n least o bs e c =
      in_turn (number o bs) _ e λ k o₁ r₁ e₁ e₂. passed (leb least k) _ _ _ _ _ e₂ λ t e₃.
      in_turn (read o₁ r₁) _ e₃ λ v o₂ r₂ e₄ e₅. in_turn (rows read n (suc k) o₂ r₂) _ e₅ λ more o₃ r₃ e₆ e₇.
      c k o₁ r₁ v o₂ r₂ more e₁ (leb-true least k t) e₄ (rw (got_next e₇, got_rest e₇) at e₆) (got_value e₇)

  pub in_table {ℓ} : {C : Type ℓ} (o : ℕ) (bs : List ℕ) {t : Table A} {o' : ℕ} {rest : List ℕ} → table read o bs ≡ got t o' rest
      → ((n o₁ : ℕ) (r₁ : List ℕ) → number o bs ≡ got n o₁ r₁ → rows read n 0 o₁ r₁ ≡ got t o' rest → C) → C
  unfolding table
  in_table o bs e k = in_turn (number o bs) _ e k

pub in_subsection {ℓ} : {C : Type ℓ} (kind_of : ℕ → Kind) (most least o id : ℕ) (bs : List ℕ) {t : Table (Content Part)} {o' : ℕ} {rest : List ℕ} → subsections kind_of (suc most) least o (id ∷ bs) ≡ got t o' rest
    → ((p : Part) (o₁ : ℕ) (r₁ : List ℕ) (c : Content Part) (o₂ : ℕ) (r₂ : List ℕ) (more : Table (Content Part)) → least ≤ id → sized (suc o) bs ≡ got p o₁ r₁ → contents (kind_of id) p.at p.bytes ≡ got c o₂ r₂ → subsections kind_of most (suc id) o₁ r₁ ≡ got more o' rest → row id c more ≡ t → C) → C
unfolding subsections
in_subsection kind_of most least o id bs e k =
    passed (leb least id) _ _ _ _ _ e λ t e₁. in_turn (sized (suc o) bs) _ e₁ λ p o₁ r₁ e₂ e₃.
    in_turn (inside (contents (kind_of id)) p o₁ r₁) _ e₃ λ c o₃ r₃ e₄ e₅.
    in_part (contents (kind_of id) p.at p.bytes) o₁ r₁ e₄ λ o₂ r₂ e₆ q q'.
    in_turn (subsections kind_of most (suc id) o₃ r₃) _ e₅ λ more o₅ r₅ e₇ e₈.
    k p o₁ r₁ c o₂ r₂ more (leb-true least id t) e₂ e₆ (rw (← q, ← q', got_next e₈, got_rest e₈) at e₇) (got_value e₈)

-- and put together again
pub a_subsection : (kind_of : ℕ → Kind) (most least o id : ℕ) (bs : List ℕ) {p : Part} {o₁ : ℕ} {r₁ : List ℕ} {c : Content Part} {o₂ : ℕ} {r₂ : List ℕ} {more : Table (Content Part)} {o' : ℕ} {rest : List ℕ} → least ≤ id → sized (suc o) bs ≡ got p o₁ r₁ → contents (kind_of id) p.at p.bytes ≡ got c o₂ r₂ → subsections kind_of most (suc id) o₁ r₁ ≡ got more o' rest
    → subsections kind_of (suc most) least o (id ∷ bs) ≡ got (row id c more) o' rest
unfolding subsections
a_subsection kind_of most least o id bs l e₁ e₂ e₃ = rw (le-leb least id l, e₁, e₂, e₃)

-- the rules of the walk read nothing
checked_stays : (b : Bool) (why : Reason) (at o : ℕ) (bs : List ℕ) {v : Unit {0}} {o' : ℕ} {rest : List ℕ} → checked b why at o bs ≡ got v o' rest → (o ≡ o') × (bs ≡ rest)
checked_stays true why at o bs e = (got_next e, got_rest e)
checked_stays false why at o bs e = absurd (not_got e)

id_rules_stay : (seen : Seen) (at id o : ℕ) (bs : List ℕ) {v : Unit {0}} {o' : ℕ} {rest : List ℕ} → id_rules seen at id o bs ≡ got v o' rest → (o ≡ o') × (bs ≡ rest)
unfolding id_rules
id_rules_stay seen at id o bs e =
    passed (leb id greatest_id) _ _ _ _ _ e λ _ e₁. passed (is_custom id || ltb seen.rank (rank id)) _ _ _ _ _ e₁ λ _ e₂.
    checked_stays (not (is_data id && seen.there name_row)) _ _ _ _ e₂

name_rules_stay : (seen : Seen) (at : ℕ) (r : Option ℕ) (o : ℕ) (bs : List ℕ) {v : Unit {0}} {o' : ℕ} {rest : List ℕ} → name_rules seen at r o bs ≡ got v o' rest → (o ≡ o') × (bs ≡ rest)
unfolding name_rules
name_rules_stay seen at none o bs e = (got_next e, got_rest e)
name_rules_stay seen at (some k) o bs e =
    passed (not (seen.there k)) _ _ _ _ _ e λ _ e₁.
    checked_stays (not (before_code k && seen.code)) _ _ _ _ e₁

-- one section
pub in_section {ℓ} : {C : Type ℓ} (seen : Seen) (o id : ℕ) (bs : List ℕ) {s : Section} {o₁ : ℕ} {r₁ : List ℕ} → section seen o id (suc o) bs ≡ got s o₁ r₁ → ((o₂ : ℕ) (r₂ : List ℕ) → s.id ≡ id → s.at ≡ o → sized (suc o) bs ≡ got s.contents o₁ r₁ → custom id s.contents.at s.contents.bytes ≡ got s.custom o₂ r₂ → C) → C
unfolding section
in_section seen o id bs {s} e₁ k =
    in_turn (id_rules seen o id (suc o) bs) _ e₁ λ _ o₃ r₃ e₂ e₃.
    let (a, a') = id_rules_stay seen o id (suc o) bs e₂ in
    in_turn (sized o₃ r₃) _ e₃ λ p o₁ r₁ e₆ e₇.
    in_turn (inside (custom id) p o₁ r₁) _ e₇ λ c o₄ r₄ e₈ e₉.
    in_part (custom id p.at p.bytes) o₁ r₁ e₈ λ o₂ r₂ e₁₀ q q'.
    in_turn (name_rules seen o (row_of c) o₄ r₄) _ e₉ λ _ o₅ r₅ e₁₁ e₁₂.
    let (b, b') = name_rules_stay seen o (row_of c) o₄ r₄ e₁₁ in
    let is = got_value e₁₂ in
    k o₂ r₂ (rw (← is)) (rw (← is)) (rw (← is, ← got_next e₁₂, ← got_rest e₁₂, ← b, ← b', ← q, ← q', a, a') e₆) (rw (← is) e₁₀)

-- a section and those after it
pub in_sections {ℓ} : {C : Type ℓ} (most : ℕ) (seen : Seen) (o id : ℕ) (bs : List ℕ) {ss : List Section} {o' : ℕ} {rest : List ℕ} → sections (suc most) seen o (id ∷ bs) ≡ got ss o' rest → ((s : Section) (o₁ : ℕ) (r₁ : List ℕ) (more : List Section) → section seen o id (suc o) bs ≡ got s o₁ r₁ → sections most (seeing seen s) o₁ r₁ ≡ got more o' rest → s ∷ more ≡ ss → C) → C
unfolding sections
in_sections most seen o id bs e k =
    in_turn (section seen o id (suc o) bs) _ e λ s o₁ r₁ e₁ e₂. in_turn (sections most (seeing seen s) o₁ r₁) _ e₂ λ more o₂ r₂ e₃ e₄.
    k s o₁ r₁ more e₁ (rw (got_next e₄, got_rest e₄) at e₃) (got_value e₄)
