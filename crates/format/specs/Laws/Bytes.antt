-- Bytes compared: the test passes for equal bytes alone.
use Rattle.std.specs.Prelude.{ℕ, true, List, [], ◌∷◌, ◌≡◌, refl, eqb}
use Rattle.std.proofs.Common.{eqb-true, eq-eqb}
use Rattle.format.specs.Bytes.{same}
use Rattle.format.specs.Laws.Outcomes.{by_test, false_true}

pub same_true : (x y : List ℕ) → same x y ≡ true → x ≡ y
unfolding same
same_true [] [] e = refl
same_true [] (b ∷ y) e = false_true e
same_true (a ∷ x) [] e = false_true e
same_true (a ∷ x) (b ∷ y) e = by_test (eqb a b) (λ t. let z = same_true x y (rw t at e) in rw (eqb-true a b t, z)) (λ t. false_true (rw t at e))

pub same_self : (x : List ℕ) → same x x ≡ true
unfolding same
same_self [] = refl
same_self (a ∷ x) = rw (eq-eqb a a refl) (same_self x)
