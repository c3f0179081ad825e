-- The row of a name: the rows are compared one after the other.
use Rattle.std.specs.Prelude.{Some, None}
use Prim.Native.Nat.{ℕ, zero, suc, ◌+◌, ◌-◌, ◌<◌}
use mathlib.Core.Bool.{Bool, true, false, cond}
use mathlib.Core.List.{List, [], ◌∷◌, map}
use mathlib.Core.Option.{some}
use mathlib.Core.Path.{◌≡◌, refl, sym, ap, ◌∙◌}
use native.Mathlib.Omega.{arith}
use borrow.Author.Rules.{rules}
use borrow.Author.Tests.{ltb-true}
use lib.Dec.{ltb}
use lib.ListN.{length, get_or, drop}
use Rattle.format.specs.Bytes.{same}
use Rattle.format.specs.Walk.{Tracked, tracked, first_row}
use Rattle.format.specs.Laws.Options.{not_some, some_is}
use Rattle.format.specs.Laws.Outcomes.{by_test}
use Rattle.walk.specs.Sections.{Calls}

abbrev name_at : List Tracked → ℕ → List ℕ
name_at ts row = get_or (map (λ (t : Tracked). t.name) ts) row []

compared : (is_so : List ℕ → Bool) (ts : List Tracked) (row k : ℕ) → row < length ts → first_row k (drop row ts) is_so ≡ cond (is_so (name_at ts row)) (some k) (first_row (suc k) (drop (suc row) ts) is_so)
compared is_so [] row k h = absurd (omega arith)
compared is_so (t ∷ ts) zero k h = refl
compared is_so (t ∷ ts) (suc row) k h = compared is_so ts row k (omega arith)

-- none of the rows before one has the name: those from there on decide
pub record Passed (name : List ℕ) (row : ℕ) : Type 0 where
  pub rest : first_row 0 tracked (λ x. same x name) ≡ first_row row (drop row tracked) (λ x. same x name)

pub none_passed : {name : List ℕ} → Passed name 0
none_passed = record { rest = refl }

module _ {name x : List ℕ} {b : Bool} (row : ℕ) (e : b ≡ same x name) where
  decided : {now : Bool} → b ≡ now → x ≡ name_at tracked row → row < length tracked → Passed name row → first_row 0 tracked (λ x. same x name) ≡ cond now (some row) (first_row (suc row) (drop (suc row) tracked) (λ x. same x name))
  decided t is h p =
      p.rest
      ∙ compared (λ x. same x name) tracked row row h
      ∙ ap (λ now. cond now (some row) (first_row (suc row) (drop (suc row) tracked) (λ x. same x name))) (ap (λ y. same y name) (sym is) ∙ sym e ∙ t)

  pub row_found : b ≡ true → x ≡ name_at tracked row → ltb row (length tracked) ≡ true → Passed name row → Calls name (Some row)
  row_found t is h p = record { row_is = decided t is (ltb-true row (length tracked) h) p }

-- said of the row behind, so that a search goes down to the first
pub row_passed : {name x : List ℕ} {b : Bool} (row : ℕ) → ltb 0 row ≡ true → b ≡ same x name → b ≡ false → x ≡ name_at tracked (row - 1) → ltb (row - 1) (length tracked) ≡ true → Passed name (row - 1) → Passed name row
row_passed {name} row above e t is h p =
    let next : suc (row - 1) ≡ row = let l = ltb-true 0 row above in omega arith in
    record { rest = decided (row - 1) e t is (ltb-true (row - 1) (length tracked) h) p ∙ ap (λ k. first_row k (drop k tracked) (λ x. same x name)) next }

pub not_tracked : {name : List ℕ} → Passed name (length tracked) → Calls name None
not_tracked p = record { row_is = p.rest }

pub ruleset rows_compared = (none_passed, row_found, row_passed, not_tracked, rules)

-- a row that was found is one of the table's
pub row_below : (k : ℕ) (ts : List Tracked) (is_so : List ℕ → Bool) {row : ℕ} → first_row k ts is_so ≡ some row → row < k + length ts
row_below k [] is_so e = absurd (not_some e)
row_below k (t ∷ ts) is_so e =
    by_test (is_so t.name)
    (λ b. let here : _ ≡ _ = some_is (rw b at e) in omega arith)
    (λ b. let far = row_below (suc k) ts is_so (rw b at e) in omega arith)
