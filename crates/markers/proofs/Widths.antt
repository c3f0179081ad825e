-- A number that is wide has its last byte so far on at least, and ends there where that byte says so. Nothing here is about code.
use Prim.Native.Nat.{ℕ, zero, suc, ◌+◌, ◌*◌, ◌%◌, ◌^◌, ◌≤◌, ◌<◌}
use mathlib.Core.List.{List, [], ◌∷◌}
use mathlib.Core.Path.{◌≡◌}
use native.Mathlib.Nat.{pow-succ'}
use native.Mathlib.Omega.{arith}
use borrow.Author.Tests.{ltb-true, ltb-false, leb-true}
use lib.Dec.{ltb, leb}
use lib.ListN.{get_or}
use Rattle.format.specs.Reading.{got, return}
use Rattle.format.specs.Numbers.{groups, number}
use Rattle.format.specs.Laws.Outcomes.{not_got, got_value, got_next, by_test, in_turn}
use Rattle.markers.specs.Passing.{Wide}

pub record Ends (width o : ℕ) (bs : List ℕ) (next : ℕ) : Type 0 where
  pub far : o + width < next
  pub last : get_or bs width 0 < 128 → next ≡ o + width + 1

-- greater numbers are wide, too
pub wide_above : {width v k : ℕ} → Wide width v → v ≤ k → Wide width k
wide_above w h p = omega (arith, w p, h)

positive : (n : ℕ) → 1 ≤ 128 ^ n
positive zero = omega arith
positive (suc n) = omega (arith, pow-succ' 128 n, positive n)

-- one byte is not wide
one_byte : (width : ℕ) {o b next : ℕ} {bs : List ℕ} → b < 128 → Wide width b → suc o ≡ next → Ends width o (b ∷ bs) next
one_byte zero h w e = record { far = omega arith; last = λ _. omega arith }
one_byte (suc width) h w e = absurd (omega (arith, pow-succ' 128 width, positive width, w (omega arith), h))

-- and a byte more has seven bits more
narrower : (width b v : ℕ) → Wide (suc width) (b % 128 + 128 * v) → Wide width v
narrower width b v w p = omega (arith, pow-succ' 128 width, w (omega arith))

behind_more : (width : ℕ) {o b v next : ℕ} {bs : List ℕ} → 128 ≤ b → Wide width (b % 128 + 128 * v) → ((n : ℕ) → Wide n v → Ends n (suc o) bs next) → Ends width o (b ∷ bs) next
behind_more zero h w more = let e = more zero (λ p. absurd (omega arith)) in record { far = omega (arith, e.far); last = λ l. absurd (omega arith) }
behind_more (suc width) {b = b} {v = v} h w more =
    let e = more width (narrower width b v w) in
    record { far = omega (arith, e.far); last = λ l. omega (arith, e.last l) }

groups_end : (more first width o : ℕ) (bs : List ℕ) {v next : ℕ} {rest : List ℕ} → groups more first o bs ≡ got v next rest → Wide width v → Ends width o bs next
unfolding groups
groups_end more first width o [] e w = absurd (not_got e)
groups_end zero first width o (b ∷ bs) e w =
    by_test (leb b 15)
    (λ t. let e' : got b (suc o) bs ≡ got _ _ _ = rw t at e in one_byte width (omega (arith, leb-true b 15 t)) (rw (got_value e') w) (got_next e'))
    (λ t. absurd (not_got (rw t at e)))
groups_end (suc more) first width o (b ∷ bs) e w =
    by_test (ltb b 128)
    (λ t. let e' : got b (suc o) bs ≡ got _ _ _ = rw t at e in one_byte width (ltb-true b 128 t) (rw (got_value e') w) (got_next e'))
    (λ t. in_turn (groups more first (suc o) bs) (λ v. return (b % 128 + 128 * v)) (rw t at e) λ v o₁ r₁ e₁ e₂.
    rw (← got_next e₂) (behind_more width (ltb-false b 128 t) (rw (got_value e₂) w) λ n wide. groups_end more first n (suc o) bs e₁ wide))

pub number_ends : {width o : ℕ} {bs : List ℕ} {v next : ℕ} {rest : List ℕ} → number o bs ≡ got v next rest → Wide width v → Ends width o bs next
unfolding number
number_ends {width} {o} {bs} e w = groups_end 4 o width o bs e w
