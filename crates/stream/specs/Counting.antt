-- Rule R14.1 of docs/RULES.md, for numbers (R1.4 to R1.7).
-- A number as its bytes arrive: how many have come, and what they add up to. Assumes nothing.
use Rattle.std.specs.Prelude.{ℕ, zero, suc, ◌+◌, ◌*◌, ◌%◌, cond, ltb, leb}

pub record Number : Type 0 where
  pub come : ℕ
  pub low : ℕ

abbrev pub fresh : Number
fresh = record { come = 0; low = 0 }

-- what the next group of seven bits is worth
unfoldable pub weight : ℕ → ℕ
weight zero = 1
weight (suc come) = weight come * 128

-- how many bytes may follow the first
abbrev pub most_following : ℕ
most_following = 4

-- what a byte makes of it: the number is whole, or partly there, or too large
pub data Counted : Type 0 where
  whole : ℕ → Counted
  partly : Number → Counted
  over : Counted

unfoldable pub counted : Number → ℕ → Counted
counted n b =
    cond (ltb n.come most_following)
    (cond (ltb b 128)
    (whole (n.low + weight n.come * b))
    (partly (record { come = suc n.come; low = n.low + weight n.come * (b % 128) })))
    (cond (leb b 0x0F) (whole (n.low + weight n.come * b)) over)
