-- Rule R1.11 of docs/RULES.md.
-- Valid UTF-8 once more, by byte ranges, as the Unicode Standard's table of well_formed_lem UTF-8 gives them. Overlong forms, surrogates and anything above U+10FFFF are in no row. `by_ranges` and `utf8` in `format` say the same of all bytes. Assumes nothing.
use Rattle.std.specs.Prelude.{ℕ, Bool, true, false, cond, ◌&&◌, List, [], ◌∷◌, leb}

pub data Range : Type 0 where
  ◌to◌ : ℕ → ℕ → Range

infixl 90 ◌to◌
abbrev pub in_range : ℕ → Range → Bool
in_range b (low to high) = leb low b && leb b high

-- a row of the table: the first byte's range, and the ranges of the bytes that follow it
pub data Row : Type 0 where
  form : Range → List Range → Row

unfoldable pub well_formed : List Row
well_formed =
    form (0x00 to 0x7F) [] ∷
    form (0xC2 to 0xDF) (0x80 to 0xBF ∷ []) ∷
    form (0xE0 to 0xE0) (0xA0 to 0xBF ∷ 0x80 to 0xBF ∷ []) ∷
    form (0xE1 to 0xEC) (0x80 to 0xBF ∷ 0x80 to 0xBF ∷ []) ∷
    form (0xED to 0xED) (0x80 to 0x9F ∷ 0x80 to 0xBF ∷ []) ∷
    form (0xEE to 0xEF) (0x80 to 0xBF ∷ 0x80 to 0xBF ∷ []) ∷
    form (0xF0 to 0xF0) (0x90 to 0xBF ∷ 0x80 to 0xBF ∷ 0x80 to 0xBF ∷ []) ∷
    form (0xF1 to 0xF3) (0x80 to 0xBF ∷ 0x80 to 0xBF ∷ 0x80 to 0xBF ∷ []) ∷
    form (0xF4 to 0xF4) (0x80 to 0x8F ∷ 0x80 to 0xBF ∷ 0x80 to 0xBF ∷ []) ∷
    []

-- the ranges that must follow a first byte; one that no row has is followed by a range that no byte is in
unfoldable pub following : ℕ → List Row → List Range
following b [] = 1 to 0 ∷ []
following b (form first rest ∷ rows) = cond (in_range b first) rest (following b rows)

-- the bytes are in the ranges still wanted, and well formed from there to the end
unfoldable pub continues : List Range → List ℕ → Bool
continues [] [] = true
continues (r ∷ rs) [] = false
continues [] (b ∷ bs) = continues (following b well_formed) bs
continues (r ∷ rs) (b ∷ bs) = in_range b r && continues rs bs

unfoldable pub by_ranges : List ℕ → Bool
by_ranges bs = continues [] bs
