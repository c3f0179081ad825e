-- The sections that are asked, by the bytes of their names.
use Prim.Native.Nat.{ℕ}
use mathlib.Core.Bool.{Bool, true, false}
use mathlib.Core.List.{List, [], ◌∷◌}
use mathlib.Core.Path.{◌≡◌, refl, sym, ap, ◌∙◌}
use borrow.Author.Rules.{rules}
use borrow.Author.Tests.{eqb-true}
use lib.Dec.{eqb}
use Rattle.format.specs.Bytes.{same}
use Rattle.format.specs.Questions.{answered, as_place}
use Rattle.format.specs.Walk.{branch_hint, custom_payload}
use Rattle.format.specs.Laws.Outcomes.{by_test}
use Rattle.format.specs.Returned.{Answer}
use Rattle.reading.proofs.Laws.{over_inside, over_left}
use Rattle.reading.specs.Cursors.{over_all, left}
use Rattle.reading.specs.declared.Cursor.{Cursor}
use Rattle.tables.specs.declared.Item.TheVariants.{Data, Hint}
use Rattle.through.specs.Sections.{item_called}

-- the bytes that the code has are those of the name
pub sought : (m : List ℕ) (r : Answer) (x name : List ℕ) → x ≡ name → answered r ≡ as_place (custom_payload x m) → answered r ≡ as_place (custom_payload name m)
sought m r x name is e = rw (← is) e

-- the same either way round
same_turned : (x y : List ℕ) → same x y ≡ same y x
unfolding same
same_turned [] [] = refl
same_turned [] (b ∷ y) = refl
same_turned (a ∷ x) [] = refl
same_turned (a ∷ x) (b ∷ y) = rw (same_turned x y, eqb_turned a b)
  where
    eqb_turned : (a b : ℕ) → eqb a b ≡ eqb b a
    eqb_turned a b = by_test (eqb a b) (λ t. let e = eqb-true a b t in rw e) (λ t. by_test (eqb b a) (λ u. let e = eqb-true b a u in rw e) (λ u. t ∙ sym u))

module _ (format : List ℕ) {c : Cursor} (over : c ≡ over_all format) {x : List ℕ} {b : Bool} (is : x ≡ branch_hint) (e : b ≡ same x (left format c)) where
  is_format : same format branch_hint ≡ b
  is_format = same_turned format branch_hint ∙ ap (same branch_hint) (sym (over_left over)) ∙ ap (λ y. same y (left format c)) (sym is) ∙ sym e

  pub hints_called : b ≡ true → Hint ≡ item_called format
  unfolding item_called
  hints_called t = rw (is_format, t)

  pub others_called : b ≡ false → Data ≡ item_called format
  unfolding item_called
  others_called t = rw (is_format, t)

pub ruleset sections = (sought, hints_called, others_called, over_inside, rules)
