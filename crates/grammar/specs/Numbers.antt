-- Rules R1.4 to R1.6 of docs/RULES.md.
-- Numbers (WebAssembly specification, 5.2.2 Integers). Assumes nothing.
use Rattle.std.specs.Prelude.{ℕ, ◌+◌, ◌-◌, ◌*◌, ◌^◌, ◌≤◌, ◌<◌, List, [], ◌∷◌}

-- what a stretch of bytes means: a production of the specification, B ::= b* ⇒ v
abbrev pub Grammar : Type 0 → Type 1
Grammar A = List ℕ → A → Type 0

-- byte ::= 0x00 | .. | 0xFF
abbrev pub Byte : ℕ → Type 0
Byte n = n < 2 ^ 8

-- uN ::= n:byte          ⇒ n                      (if n < 2^7 and n < 2^N)
--      | n:byte m:u(N-7) ⇒ 2^7 · m + (n - 2^7)    (if n ≥ 2^7 and N > 7)
pub data Unsigned : ℕ → List ℕ → ℕ → Type 0 where
  last : {N n : ℕ} → n < 2 ^ 7 → n < 2 ^ N → Unsigned N (n ∷ []) n
  more : {N n m : ℕ} {bs : List ℕ} → Byte n → 2 ^ 7 ≤ n → 7 < N → Unsigned (N - 7) bs m → Unsigned N (n ∷ bs) (2 ^ 7 * m + (n - 2 ^ 7))

-- u32
abbrev pub U32 : Grammar ℕ
U32 = Unsigned 32
