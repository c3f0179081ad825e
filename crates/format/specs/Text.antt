-- Rule R1.10 of docs/RULES.md.
-- Valid UTF-8: characters one after another, each worked out from its bytes and compared with the limits. "Overlong forms, surrogates (U+D800 to U+DFFF) and anything above U+10FFFF are invalid." Assumes nothing.
use Rattle.std.specs.Prelude.{ℕ, zero, suc, ◌+◌, ◌-◌, ◌*◌, ◌%◌, Bool, true, false, cond, ◌&&◌, ◌||◌, List, [], ◌∷◌, ltb, leb, eqb}

-- the least code points that need two, three and four bytes
abbrev pub least_of_two : ℕ
least_of_two = 0x80

abbrev pub least_of_three : ℕ
least_of_three = 0x800

abbrev pub least_of_four : ℕ
least_of_four = 0x10000

-- THE LIMITS of a code point, in a form that is the shortest from `least` on
abbrev pub is_allowed : (least code : ℕ) → Bool
is_allowed least code = leb least code && ((ltb code 0xD800 || ltb 0xDFFF code) && leb code 0x10FFFF)

-- a byte behind a character's first begins with the bits 10; the six others are bits of the code point
abbrev pub is_later : ℕ → Bool
is_later b = leb 0x80 b && ltb b 0xC0

abbrev pub with_later : (code b : ℕ) → ℕ
with_later code b = code * 64 + b % 64

-- whether `n` such bytes come next, and the code point that they complete is allowed
unfoldable pub completes : (n least code : ℕ) → List ℕ → Bool
completes zero least code bs = is_allowed least code
completes (suc n) least code [] = false
completes (suc n) least code (b ∷ bs) = is_later b && completes n least (with_later code b) bs

-- how many bytes the character has that comes next, by the high bits of its first: 0 where none does
unfoldable pub character : List ℕ → ℕ
character [] = 0
character (b ∷ bs) =
    cond (ltb b 0x80) 1
    (cond (ltb b 0xC0) 0
    (cond (ltb b 0xE0) (cond (completes 1 least_of_two (b % 32) bs) 2 0)
    (cond (ltb b 0xF0) (cond (completes 2 least_of_three (b % 16) bs) 3 0)
    (cond (ltb b 0xF8) (cond (completes 3 least_of_four (b % 8) bs) 4 0)
    0))))

-- characters to the end, once the `rest` of the one before is passed
unfoldable pub characters : (rest : ℕ) → List ℕ → Bool
characters rest [] = true
characters (suc rest) (b ∷ bs) = characters rest bs
characters zero (b ∷ bs) = let n = character (b ∷ bs) in cond (eqb n 0) false (characters (n - 1) bs)

unfoldable pub utf8 : List ℕ → Bool
utf8 bs = characters 0 bs
