-- Rule R14.1 of docs/RULES.md, for text (R1.10).
-- Text as its bytes arrive: how many bytes the character still wants, the least code point of its form, and the code point so far. Assumes nothing.
use Rattle.std.specs.Prelude.{ℕ, zero, suc, ◌%◌, Bool, true, false, cond, List, [], ◌∷◌, ltb}
use Rattle.format.specs.Text.{least_of_two, least_of_three, least_of_four, is_allowed, is_later, with_later}

pub record Text : Type 0 where
  pub wanted : ℕ
  pub least : ℕ
  pub code : ℕ

-- between two characters
abbrev pub none_wanted : Text
none_wanted = record { wanted = 0; least = 0; code = 0 }

-- what can be no text any more wants a byte, and then a code point that there is none of
abbrev pub empty_text : Text
empty_text = record { wanted = 1; least = 0x110000; code = 0 }

-- a character's first byte
unfoldable pub leading_byte : ℕ → Text
leading_byte b =
    cond (ltb b 0x80) none_wanted
    (cond (ltb b 0xC0) empty_text
    (cond (ltb b 0xE0) (record { wanted = 1; least = least_of_two; code = b % 32 })
    (cond (ltb b 0xF0) (record { wanted = 2; least = least_of_three; code = b % 16 })
    (cond (ltb b 0xF8) (record { wanted = 3; least = least_of_four; code = b % 8 })
    empty_text))))

-- so many are wanted behind a later one
unfoldable pub wanting : (more least code : ℕ) → Text
wanting zero least code = cond (is_allowed least code) none_wanted empty_text
wanting (suc more) least code = record { wanted = suc more; least = least; code = code }

unfoldable pub wanted_byte : (wanted least code b : ℕ) → Text
wanted_byte zero least code b = leading_byte b
wanted_byte (suc more) least code b = cond (is_later b) (wanting more least (with_later code b)) empty_text

unfoldable pub text_byte : Text → ℕ → Text
text_byte t b = wanted_byte t.wanted t.least t.code b

-- bytes, one after the other
unfoldable pub text_bytes : Text → List ℕ → Text
text_bytes t [] = t
text_bytes t (b ∷ bs) = text_bytes (text_byte t b) bs

unfoldable pub nothing_wanted : ℕ → Bool
nothing_wanted zero = true
nothing_wanted (suc more) = false

unfoldable pub text_ends : Text → Bool
text_ends t = nothing_wanted t.wanted
