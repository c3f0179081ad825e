-- The checks that the walk makes of one section are what the rules allow after what was seen.
use Rattle.std.specs.Prelude.{ℕ, suc, Bool, false, not, ◌&&◌, ◌||◌, List, ◌≡◌, refl, leb, eqb}
use Rattle.std.proofs.Math.Bool.{true}
use Rattle.std.proofs.Math.Option.{Option, none, some}
use Rattle.std.proofs.Common.{sym, ◌∙◌}
use borrow.Author.Tests.{ltb-true, leb-true, le-leb, lt-ltb, eqb-true, eqb-false, eq-eqb, ne_eqb}
use Rattle.std.proofs.Math.Dec.{ltb}
use Rattle.format.specs.Reading.{got, checked}
use Rattle.format.specs.Options.{map_some}
use Rattle.format.specs.Parts.{Part, sized, inside}
use Rattle.format.specs.Walk.{greatest_id, is_custom, is_code, is_data, rank, Custom, custom, is_called, tracked, name_row, before_code, first_row, row_of, Section, Seen, seeing, id_rules, name_rules, section}
use Rattle.format.specs.Laws.Options.{not_some, some_is}
use Rattle.format.specs.Laws.Outcomes.{not_got, got_value, got_next, got_rest, by_test, false_true, in_turn, passed, in_part}
use Rattle.format.specs.declared.Reason.{Reason}
use Rattle.grammar.specs.Forgetting.{bare_custom, bare_section}
use Rattle.grammar.proofs.Laws.Order.{Allows, after}
use Rattle.grammar.specs.Laws.Rows.{called_in, row_in}

-- The checks of one section that the walk makes
pub record Passed (seen : Seen) (id : ℕ) (r : Option ℕ) : Type 0 where
  pub known : leb id greatest_id ≡ true
  pub order : (is_custom id || ltb seen.rank (rank id)) ≡ true
  pub no_data : not (is_data id && seen.there name_row) ≡ true
  pub not_again : (row : ℕ) → r ≡ some row → not (seen.there row) ≡ true
  pub not_late : (row : ℕ) → r ≡ some row → not (before_code row && seen.code) ≡ true

pub last_check {ℓ} : {C : Type ℓ} (b : Bool) (why : Reason) (at o : ℕ) (bs : List ℕ) {v : Unit {0}} {o' : ℕ} {rest : List ℕ} → checked b why at o bs ≡ got v o' rest → (b ≡ true → o ≡ o' → bs ≡ rest → C) → C
last_check true why at o bs e k = k refl (got_next e) (got_rest e)
last_check false why at o bs e k = absurd (not_got e)

-- what the row decides
row_passed {ℓ} : {C : Type ℓ} (seen : Seen) (r : Option ℕ) (at o : ℕ) (bs : List ℕ) {v : Unit {0}} {o' : ℕ} {rest : List ℕ} → name_rules seen at r o bs ≡ got v o' rest
    → (((row : ℕ) → r ≡ some row → not (seen.there row) ≡ true) → ((row : ℕ) → r ≡ some row → not (before_code row && seen.code) ≡ true) → o ≡ o' → bs ≡ rest → C) → C
unfolding name_rules
row_passed seen none at o bs e k = k (λ row is. absurd (not_some is)) (λ row is. absurd (not_some is)) (got_next e) (got_rest e)
row_passed seen (some i) at o bs e k =
    passed (not (seen.there i)) _ _ _ _ _ e λ t₁ e₁. last_check (not (before_code i && seen.code)) _ _ _ _ e₁ λ t₂ b b'.
    k (λ row is. rw (← some_is is) t₁) (λ row is. rw (← some_is is) t₂) b b'

row_passes : (seen : Seen) (r : Option ℕ) (at o : ℕ) (bs : List ℕ) → ((row : ℕ) → r ≡ some row → not (seen.there row) ≡ true) → ((row : ℕ) → r ≡ some row → not (before_code row && seen.code) ≡ true) → name_rules seen at r o bs ≡ got tt o bs
unfolding name_rules
row_passes seen none at o bs f g = refl
row_passes seen (some i) at o bs f g = rw (f i refl, g i refl)

pub in_section {ℓ} : {C : Type ℓ} (seen : Seen) (o id : ℕ) (bs : List ℕ) {s : Section} {o₁ : ℕ} {r₁ : List ℕ} → section seen o id (suc o) bs ≡ got s o₁ r₁
    → ((p : Part) (c : Option Custom) (o₂ : ℕ) (r₂ : List ℕ) → Passed seen id (row_of c) → sized (suc o) bs ≡ got p o₁ r₁ → custom id p.at p.bytes ≡ got c o₂ r₂ → record { id = id; at = o; contents = p; custom = c } ≡ s → C) → C
unfolding section id_rules
in_section seen o id bs e k =
    in_turn (id_rules seen o id (suc o) bs) _ e λ _ o₃ r₃ e₁ e₂.
    passed (leb id greatest_id) _ _ _ _ _ e₁ λ t₁ e₃. passed (is_custom id || ltb seen.rank (rank id)) _ _ _ _ _ e₃ λ t₂ e₄.
    last_check (not (is_data id && seen.there name_row)) _ _ _ _ e₄ λ t₃ a a'.
    in_turn (sized o₃ r₃) _ e₂ λ p o₄ r₄ e₅ e₆. in_turn (inside (custom id) p o₄ r₄) _ e₆ λ c o₅ r₅ e₇ e₈.
    in_part (custom id p.at p.bytes) o₄ r₄ e₇ λ o₂ r₂ e₉ q q'.
    in_turn (name_rules seen o (row_of c) o₅ r₅) _ e₈ λ _ o₆ r₆ e₁₀ e₁₁.
    row_passed seen (row_of c) o o₅ r₅ e₁₀ λ t₄ t₅ b b'.
    k p c o₂ r₂ (record { known = t₁; order = t₂; no_data = t₃; not_again = t₄; not_late = t₅ })
    (rw (← got_next e₁₁, ← got_rest e₁₁, ← b, ← b', ← q, ← q', a, a') e₅) e₉ (got_value e₁₁)

pub section_reads : (seen : Seen) (o id : ℕ) (bs : List ℕ) (p : Part) (c : Option Custom) {o₁ : ℕ} {r₁ : List ℕ} {o₂ : ℕ} {r₂ : List ℕ} → Passed seen id (row_of c) → sized (suc o) bs ≡ got p o₁ r₁ → custom id p.at p.bytes ≡ got c o₂ r₂
    → section seen o id (suc o) bs ≡ got (record { id = id; at = o; contents = p; custom = c }) o₁ r₁
unfolding section id_rules
section_reads seen o id bs p c {o₁} {r₁} h e₁ e₂ = rw (h.known, h.order, h.no_data, e₁, e₂, row_passes seen (row_of c) o o₁ r₁ h.not_again h.not_late)

-- They are what the rules allow
pub not_both : (a b : Bool) → (a ≡ true → b ≡ true → ⊥) → not (a && b) ≡ true
not_both true true h = absurd (h refl refl)
not_both true false h = refl
not_both false b h = refl

both_not : (a b : Bool) → not (a && b) ≡ true → b ≡ true → a ≡ true → ⊥
both_not true true h p q = false_true h
both_not true false h p q = false_true p
both_not false b h p q = false_true q

called_bare : (x : List ℕ) (c : Option Custom) → is_called x c ≡ called_in x (map_some bare_custom c)
unfolding is_called
called_bare x none = refl
called_bare x (some c) = refl

pub row_bare : (c : Option Custom) → row_of c ≡ row_in (map_some bare_custom c)
row_bare c = λ i. first_row 0 tracked (λ x. called_bare x c i)

module _ (seen : Seen) (s : Section) where
  pub passed_allows : Passed seen s.id (row_of s.custom) → Allows seen (bare_section s)
  unfolding is_custom is_data
  passed_allows h = record {
    known = leb-true s.id greatest_id h.known;
    order = λ n. let t : ltb seen.rank (rank s.id) ≡ true = rw (ne_eqb s.id 0 n) at h.order in ltb-true seen.rank (rank s.id) t;
    no_data = λ e is. both_not (eqb s.id 11) (seen.there name_row) h.no_data e (eq-eqb s.id 11 is);
    not_again = λ row is e. false_true (rw e at (h.not_again row (row_bare s.custom ∙ is)));
    not_late = λ row is c e. both_not (before_code row) seen.code (h.not_late row (row_bare s.custom ∙ is)) e c;
  }

  pub allows_passed : Allows seen (bare_section s) → Passed seen s.id (row_of s.custom)
  unfolding is_custom is_data
  allows_passed h = record {
    known = le-leb s.id greatest_id h.known;
    order = by_test (eqb s.id 0) (λ t. rw t) (λ t. rw t (lt-ltb seen.rank (rank s.id) (h.order (eqb-false s.id 0 t))));
    no_data = not_both (eqb s.id 11) (seen.there name_row) (λ t e. h.no_data e (eqb-true s.id 11 t));
    not_again = λ row is. by_test (seen.there row) (λ t. absurd (h.not_again row (sym (row_bare s.custom) ∙ is) t)) (λ t. rw t);
    not_late = λ row is. not_both (before_code row) seen.code (λ t e. h.not_late row (sym (row_bare s.custom) ∙ is) t e);
  }

  pub seeing_after : seeing seen s ≡ after seen (bare_section s)
  unfolding seeing is_custom is_code
  seeing_after = rw (row_bare s.custom)
