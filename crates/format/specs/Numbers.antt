-- Rules R1.4 to R1.7 of docs/RULES.md.
-- Unsigned 32_bit numbers are LEB128, low seven bits first, at most 5 bytes. Padding with zero groups is accepted. The fifth byte is at most 0x0F. Assumes nothing.
use Rattle.std.specs.Prelude.{ℕ, zero, suc, ◌+◌, ◌*◌, ◌%◌, ◌/◌, cond, List, [], ◌∷◌, ltb, leb}
use Rattle.format.specs.Reading.{got, Reader, and_then, return, refuse}
use Rattle.format.specs.declared.Reason.TheVariants.{PastItsPart, NumberTooLarge}

-- a number's groups of seven bits, of which `more` may follow the next one; refusals 2 and 3 give the number's first byte
unfoldable pub groups : (more first : ℕ) → Reader ℕ
groups more first o [] = refuse PastItsPart first o []
groups zero first o (b ∷ bs) = cond (leb b 0x0F) (got b (suc o) bs) (refuse NumberTooLarge first o bs)
groups (suc more) first o (b ∷ bs) =
    cond (ltb b 128)
    (got b (suc o) bs)
    (and_then (groups more first (suc o) bs) (λ v. return (b % 128 + 128 * v)))

unfoldable pub number : Reader ℕ
number o bs = groups 4 o o bs

-- the fewest bytes for a number, at most `more` of them after the next one
unfoldable pub fewest : (more v : ℕ) → List ℕ
fewest zero v = v ∷ []
fewest (suc more) v = cond (ltb v 128) (v ∷ []) ((128 + v % 128) ∷ fewest more (v / 128))

unfoldable pub shortest : ℕ → List ℕ
shortest v = fewest 4 v

-- the numbers that 32 bits hold
abbrev pub limit32 : ℕ
limit32 = 4_294_967_296
