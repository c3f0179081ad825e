-- Rules R1.3, R1.6 and R1.7 of docs/RULES.md.
-- What is refused, said a second way: faults. Bytes have a fault where they begin well and then break one rule. "Reading is left to right, and each check is made once the bytes it needs are read": so what stands before the fault is what the grammar has a meaning for, and keeps every rule whose bytes are read by then. Above each fault stands its row of the table of refusals. Here are the faults of numbers. Assumes nothing.
use Rattle.std.specs.Prelude.{ℕ, ◌≤◌, ◌<◌, List, [], ◌∷◌, ◌++◌, ◌≡◌, length}

-- The bytes are all that the innermost part has left where a production begins: nothing is read past them. The fault has its number in the table, and its place is counted from the first of these bytes
abbrev pub Faults : Type 1
Faults = List ℕ → (number place : ℕ) → Type 0

-- bytes of a number that say that another follows
pub data GoOn : List ℕ → Type 0 where
  no_byte : GoOn []
  one_more : {b : ℕ} {bs : List ℕ} → 0x80 ≤ b → GoOn bs → GoOn (b ∷ bs)

pub data NumberFault : List ℕ → (number place : ℕ) → Type 0 where
  -- R18.2: "2 | a number .. runs past its enclosing part | first byte of the number": at most four bytes are left, and each says that another follows
  cut_off : {bs : List ℕ} → GoOn bs → length bs ≤ 4 → NumberFault bs 2 0
  -- R18.3: "3 | fifth byte of a number above 0x0F | first byte of the number"
  too_large_lem : {four : List ℕ} {fifth : ℕ} (others : List ℕ) → GoOn four → length four ≡ 4 → 0x0F < fifth → NumberFault (four ++ (fifth ∷ others)) 3 0
