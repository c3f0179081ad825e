-- Rule R1.10 of docs/RULES.md.
-- Text: characters, and UTF-8 as their encoding (WebAssembly specification, 5.2.4 Names). Assumes nothing.
use Rattle.std.specs.Prelude.{ℕ, ◌+◌, ◌/◌, ◌%◌, ◌^◌, ◌≤◌, ◌<◌, List, [], ◌∷◌, ◌++◌}

-- char ::= U+00 | .. | U+D7FF | U+E000 | .. | U+10FFFF
pub data Character : ℕ → Type 0 where
  before_surrogates : {c : ℕ} → c < 0xD800 → Character c
  after_surrogates : {c : ℕ} → 0xE000 ≤ c → c < 0x110000 → Character c

-- utf8(c), in one to four bytes: six bits in each after the first, whose high bits say how many there are
pub data Encoding : ℕ → List ℕ → Type 0 where
  one : {c : ℕ} → c < 0x80 → Encoding c (c ∷ [])
  two : {c : ℕ} → 0x80 ≤ c → c < 0x800 → Encoding c ((0xC0 + c / 2 ^ 6) ∷ (0x80 + c % 2 ^ 6) ∷ [])
  three : {c : ℕ} → 0x800 ≤ c → c < 0x10000 → Encoding c ((0xE0 + c / 2 ^ 12) ∷ (0x80 + c / 2 ^ 6 % 2 ^ 6) ∷ (0x80 + c % 2 ^ 6) ∷ [])
  four : {c : ℕ} → 0x10000 ≤ c → c < 0x110000 → Encoding c ((0xF0 + c / 2 ^ 18) ∷ (0x80 + c / 2 ^ 12 % 2 ^ 6) ∷ (0x80 + c / 2 ^ 6 % 2 ^ 6) ∷ (0x80 + c % 2 ^ 6) ∷ [])

-- utf8(c*) = (utf8(c))*: the bytes of a text, and its characters
pub data Text : List ℕ → List ℕ → Type 0 where
  empty : Text [] []
  character : {c : ℕ} {code bs cs : List ℕ} → Character c → Encoding c code → Text bs cs → Text (code ++ bs) (c ∷ cs)
