-- The walk's rules by their tests.
use Rattle.std.specs.Prelude.{Ok, Err, Some, None}
use Prim.Native.Nat.{ℕ, zero, suc, ◌+◌, ◌*◌, ◌%◌, ◌^◌, ◌≤◌, ◌<◌}
use mathlib.Core.Bool.{Bool, true, false, cond, ◌&&◌, ◌||◌}
use mathlib.Core.List.{List, [], ◌∷◌}
use mathlib.Core.Path.{◌≡◌, refl, sym, ap, ◌∙◌}
use borrow.Author.Rules.{rules}
use borrow.Author.Tests.{ltb-true, ltb-false, leb-true, leb-false, le-leb, lt-leb, lt-ltb, le-ltb, eqb-true, eq-eqb, ne_eqb}
use native.Mathlib.Omega.{arith}
use lib.Dec.{ltb, leb, eqb}
use lib.Bits.{bit_or}
use lib.ListN.{length, get_or}
use Rattle.format.specs.Walk.{greatest, greatest_id, is_custom, is_code, is_data, order, place_from, rank, tracked, name_row, before_code, id_rules, name_rules}
use Rattle.format.specs.Laws.Outcomes.{by_test, on_both}
use Rattle.format.specs.declared.Reason.TheVariants.{SectionUnknown, SectionOrder, SectionTwice, SectionTooLate}
use Rattle.walk.specs.Sections.{bit, IdRuled, InTable, NameRuled, ThereAfter}
use Rattle.walk.proofs.BitLaws.{shifted_bit, with_bit}
use Rattle.walk.specs.declared.rules.Seen.{Seen}
use Rattle.walk.specs.Returned.{Called}

-- WHERE AN ID STANDS: one test of the whole list of ranks, computed, says it of each id
abbrev ranks_from : ℕ → List ℕ → Bool
ranks_from id [] = true
ranks_from id (r ∷ rs) = eqb r (rank id) && ranks_from (suc id) rs

ranked : (id : ℕ) (rs : List ℕ) (i : ℕ) → ranks_from id rs ≡ true → i < length rs → get_or rs i 0 ≡ rank (id + i)
ranked id [] i e h = absurd (omega arith)
ranked id (r ∷ rs) zero e h = on_both (eqb r (rank id)) (ranks_from (suc id) rs) e λ t _. eqb-true r (rank id) t ∙ ap rank (omega arith)
ranked id (r ∷ rs) (suc i) e h = on_both (eqb r (rank id)) (ranks_from (suc id) rs) e λ _ t. ranked (suc id) rs i t (omega arith) ∙ ap rank (omega arith)

pub in_ranks : (rs : List ℕ) (id : ℕ) → ranks_from 0 rs ≡ true → id < length rs → get_or rs id 0 ≡ rank id
in_ranks rs id e h = ranked 0 rs id e h ∙ ap rank (omega arith)

unplaced : (k : ℕ) (xs : List ℕ) (n : ℕ) → greatest xs < n → 0 ≡ place_from k xs n
unplaced k [] n h = refl
unplaced k (x ∷ xs) n h =
    by_test (leb (greatest xs) x)
    (λ t. let above : x < n = rw t at h in rw (ne_eqb n x (λ e. omega arith)) (unplaced (suc k) xs n (omega (arith, leb-true (greatest xs) x t))))
    (λ t. let above : greatest xs < n = rw t at h in rw (ne_eqb n x (λ e. omega (arith, leb-false (greatest xs) x t))) (unplaced (suc k) xs n above))

pub past_ranks : (ids id : ℕ) → ltb greatest_id ids ≡ true → ids ≤ id → 0 ≡ rank id
unfolding rank greatest_id
past_ranks ids id t h = unplaced 1 order id (let above = ltb-true greatest_id ids t in omega arith)

pub ids_are : (ids id : ℕ) → eqb ids (suc greatest_id) ≡ true → leb ids id ≡ ltb greatest_id id
ids_are ids id t =
    let is = eqb-true ids (suc greatest_id) t in
    by_test (ltb greatest_id id)
    (λ e. rw e (le-leb ids id (let l = ltb-true greatest_id id e in omega arith)))
    (λ e. rw e (lt-leb ids id (let l = ltb-false greatest_id id e in omega arith)))

pub ruleset orders = (in_ranks, past_ranks, ids_are, rules)

-- WHAT THE ID DECIDES
known : (id : ℕ) {b : Bool} → b ≡ ltb greatest_id id → b ≡ false → leb id greatest_id ≡ true
known id k t = le-leb id greatest_id (ltb-false greatest_id id (sym k ∙ t))

module _ {seen : Seen} {id : ℕ} {b : Bool} (k : b ≡ ltb greatest_id id) where
  pub id_unknown : b ≡ true → IdRuled seen id (Err SectionUnknown)
  unfolding id_rules
  id_unknown t = record { says = λ at o bs. rw (lt-leb id greatest_id (ltb-true greatest_id id (sym k ∙ t))) }

  module _ (t : b ≡ false) where
    pub id_custom : id ≡ 0 → IdRuled seen id (Ok tt)
    unfolding id_rules is_custom is_data
    id_custom e = record { says = λ at o bs. rw (known id k t, e) }

    module _ {r : ℕ} (n : id ≡ 0 → ⊥) (q : r ≡ rank id) where
      pub id_order : r ≤ seen.rank → IdRuled seen id (Err SectionOrder)
      unfolding id_rules is_custom
      id_order h = record { says = λ at o bs. rw (known id k t, ne_eqb id 0 n, ← q, le-ltb seen.rank _ h) }

      module _ (h : seen.rank < r) where
        pub id_fine : (id ≡ 11 → ⊥) → IdRuled seen id (Ok tt)
        unfolding id_rules is_custom is_data
        id_fine e = record { says = λ at o bs. rw (known id k t, ne_eqb id 0 n, ← q, lt-ltb seen.rank _ h, ne_eqb id 11 e) }

        module _ {named : Bool} (e : id ≡ 11) (s : named ≡ bit seen.there name_row) where
          pub id_late : named ≡ true → IdRuled seen id (Err SectionTooLate)
          unfolding id_rules is_custom is_data
          id_late u = record { says = λ at o bs. rw (known id k t, ne_eqb id 0 n, ← q, lt-ltb seen.rank _ h, eq-eqb id 11 e, ← s, u) }

          pub id_data : named ≡ false → IdRuled seen id (Ok tt)
          unfolding id_rules is_custom is_data
          id_data u = record { says = λ at o bs. rw (known id k t, ne_eqb id 0 n, ← q, lt-ltb seen.rank _ h, eq-eqb id 11 e, ← s, u) }

pub ruleset id_rules_lem = (id_unknown, id_custom, id_order, id_late, id_data, id_fine, rules)

-- WHAT THE ROW DECIDES
module _ {seen : Seen} {x : Called} where
  pub other_fine : x ≡ None → NameRuled seen x (Ok tt)
  unfolding name_rules
  other_fine i = rw i (record { says = λ at o bs. refl })

  module _ {row : ℕ} {again : Bool} (i : x ≡ Some row) (q : again ≡ bit seen.there row) where
    pub row_twice : again ≡ true → NameRuled seen x (Err SectionTwice)
    unfolding name_rules
    row_twice s = rw i (record { says = λ at o bs. rw (← q, s) })

    module _ (s : again ≡ false) where
      pub row_late : before_code row ≡ true → seen.code ≡ true → NameRuled seen x (Err SectionTooLate)
      unfolding name_rules
      row_late f c = rw i (record { says = λ at o bs. rw (← q, s, f, c) })

      pub row_early : before_code row ≡ true → seen.code ≡ false → NameRuled seen x (Ok tt)
      unfolding name_rules
      row_early f c = rw i (record { says = λ at o bs. rw (← q, s, f, c) })

      pub row_anywhere : before_code row ≡ false → NameRuled seen x (Ok tt)
      unfolding name_rules
      row_anywhere f = rw i (record { says = λ at o bs. rw (← q, s, f) })

pub in_table : {x : Called} {row : ℕ} → InTable x → x ≡ Some row → row < length tracked
in_table h i = rw i at h

-- there is a bit for each row
pub row_fits : {row : ℕ} → row < length tracked → row < 8
row_fits l = omega arith

pub ruleset row_rules = (other_fine, row_twice, row_late, row_early, row_anywhere, in_table, row_fits, shifted_bit, rules)

-- WHAT THE RULES KNOW BEHIND A SECTION
module _ {before : ℕ} {x : Called} where
  pub row_there : {row : ℕ} → InTable x → x ≡ Some row → ThereAfter before x (bit_or before (1 * 2 ^ row % 2 ^ 8))
  row_there {row} h i = rw i (record { says = λ k. with_bit before row k (row_fits (in_table h i)) })

  pub none_there : x ≡ None → ThereAfter before x before
  none_there i = rw i (record { says = λ k. sym (or_false (bit before k)) })
    where
      or_false : (b : Bool) → (b || false) ≡ b
      or_false true = refl
      or_false false = refl

pub ruleset theres = (row_there, none_there, in_table, row_fits, rules)

pub code_test : (id : ℕ) → eqb id 10 ≡ is_code id
unfolding is_code
code_test id = refl

module _ (before id : ℕ) where
  pub custom_rank : id ≡ 0 → before ≡ cond (is_custom id) before (rank id)
  unfolding is_custom
  custom_rank e = rw (eq-eqb id 0 e)

  pub next_rank : {r : ℕ} → (id ≡ 0 → ⊥) → r ≡ rank id → r ≡ cond (is_custom id) before (rank id)
  unfolding is_custom
  next_rank n e = rw (ne_eqb id 0 n) e

pub ruleset ranks = (custom_rank, next_rank, rules)

pub either_is : (r a b c : Bool) → r ≡ (a || b) → b ≡ c → r ≡ (a || c)
either_is r a b c e q = rw (← q) e

pub ruleset sights = (either_is, rules)
