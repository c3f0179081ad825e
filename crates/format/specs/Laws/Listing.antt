-- A number's digits: the bound on their count is never met.
use Rattle.std.specs.Prelude.{ℕ, zero, suc, ◌/◌, ◌%◌, ◌+◌, ◌<◌, List, ◌∷◌, ◌≡◌, ltb}
use Rattle.std.proofs.Common.{arith, ltb-false}
use Rattle.format.specs.Listing.{digits}
use Rattle.format.specs.Laws.Outcomes.{by_test}

pub digits_enough : (most most' n : ℕ) (after : List ℕ) → n < most → n < most' → digits most n after ≡ digits most' n after
unfolding digits
digits_enough zero most' n after h h' = absurd (omega arith)
digits_enough (suc most) zero n after h h' = absurd (omega arith)
digits_enough (suc most) (suc most') n after h h' =
    by_test (ltb n 10)
    (λ t. rw (t, digits))
    (λ t. let large = ltb-false n 10 t in rw (t, digits) (digits_enough most most' (n / 10) ((48 + n % 10) ∷ after) (omega arith) (omega arith)))
