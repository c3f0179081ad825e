-- A number counted byte by byte is the walk's number.
use Rattle.std.specs.Prelude.{ℕ, zero, suc, ◌+◌, ◌*◌, ◌-◌, ◌%◌, List, [], ◌∷◌, ◌≡◌, refl, ltb, leb}
use Rattle.std.proofs.Common.{ap, mul-add, mul_assoc, arith, lt-ltb, le-ltb}
use Rattle.format.specs.Refusals.{number_of}
use Rattle.format.specs.Reading.{got, stop, Reader, and_then, return}
use Rattle.format.specs.Numbers.{groups, number}
use Rattle.format.specs.Laws.Outcomes.{by_test, by_outcome}
use Rattle.format.specs.declared.Reason.TheVariants.{PastItsPart, NumberTooLarge}
use Rattle.stream.specs.Counting.{Number, fresh, weight, most_following, Counted, whole, partly, over, counted}

-- what the walk's number comes to, once the rest is known; its first byte stands at `first`
unfoldable pub counting : (first : ℕ) → Number → Reader ℕ
counting first n o bs = and_then (groups (most_following - n.come) first o bs) (λ v. return (n.low + weight n.come * v))

unfoldable pub onward : (first : ℕ) → Counted → Reader ℕ
onward first (whole v) o bs = got v o bs
onward first (partly n) o bs = counting first n o bs
onward first over o bs = stop (number_of NumberTooLarge) first

-- it begins as the walk's number
pub counting_first : (o : ℕ) (bs : List ℕ) → number o bs ≡ counting o fresh o bs
unfolding number counting weight
counting_first o bs = by_outcome (groups 4 o o bs) (λ v o₁ r₁ e. rw e (ap (λ (x : ℕ). got x o₁ r₁) (omega arith))) (λ n at e. rw e)

-- it ends too early
pub counting_short : (first : ℕ) (n : Number) (o : ℕ) → counting first n o [] ≡ stop (number_of PastItsPart) first
unfolding counting groups
counting_short first n o = refl

-- one group more: the weight goes into it
regroup : (low w g v : ℕ) → low + w * (g + 128 * v) ≡ (low + w * g) + w * 128 * v
regroup low w g v =
    let p = mul-add w g (128 * v) in
    let q = mul_assoc w 128 v in
    omega (arith, p, q)

counted_byte : (more : ℕ) (first : ℕ) (n : Number) (o b : ℕ) (bs : List ℕ) → most_following - n.come ≡ more → and_then (groups more first o (b ∷ bs)) (λ v. return (n.low + weight n.come * v)) ≡ onward first (counted n b) (suc o) bs
unfolding counting groups counted onward weight
counted_byte zero first n o b bs h =
    rw (le-ltb n.come most_following (omega arith))
    (by_test (leb b 15) (λ t. rw t) (λ t. rw t))
counted_byte (suc more) first n o b bs h =
    let fewer : most_following - suc n.come ≡ more = omega arith in
    rw (lt-ltb n.come most_following (omega arith))
    (by_test (ltb b 128)
    (λ t. rw t)
    (λ t. rw (t, fewer) (by_outcome (groups more first (suc o) bs)
    (λ v o₁ r₁ e. rw e (ap (λ (x : ℕ). got x o₁ r₁) (regroup n.low (weight n.come) (b % 128) v)))
    (λ n at e. rw e))))

-- a byte is counted as the walk counts it
pub counting_byte : (first : ℕ) (n : Number) (o b : ℕ) (bs : List ℕ) → counting first n o (b ∷ bs) ≡ onward first (counted n b) (suc o) bs
unfolding counting
counting_byte first n o b bs = counted_byte (most_following - n.come) first n o b bs refl
