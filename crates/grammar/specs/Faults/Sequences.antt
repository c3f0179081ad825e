-- Rules R1.3 and R15.6 of docs/RULES.md.
-- One production behind another, and a single byte: their grammar and their faults. Assumes nothing.
use Rattle.std.specs.Prelude.{ℕ, ◌+◌, ◌≤◌, ◌<◌, List, [], ◌∷◌, ◌++◌, length}
use Rattle.grammar.specs.Numbers.{Grammar}
use Rattle.grammar.specs.Faults.Numbers.{Faults}

-- B and behind it C, which may go by what B meant; C gives the meaning
module _ {A D : Type 0} (B : Grammar A) (C : A → Grammar D) where
  pub data Then : List ℕ → D → Type 0 where
    then : {front rest : List ℕ} {v : A} {w : D} → B front v → C v rest w → Then (front ++ rest) w

-- it has a fault of B, or behind B that is well a fault of C
module _ {A : Type 0} (B : Grammar A) (BFault : Faults) (CFault : A → Faults) where
  pub data ThenFault : List ℕ → (number place : ℕ) → Type 0 where
    in_the_first : {bs : List ℕ} {n at : ℕ} → BFault bs n at → ThenFault bs n at
    behind_it : {front rest : List ℕ} {v : A} {n at : ℕ} → B front v → CFault v rest n at → ThenFault (front ++ rest) n (length front + at)

-- any byte, and one that is at most so great
pub data AnyByte : List ℕ → ℕ → Type 0 where
  a_byte : {b : ℕ} → AnyByte (b ∷ []) b

pub data ByteUpTo (most : ℕ) : List ℕ → ℕ → Type 0 where
  up_to : {b : ℕ} → b ≤ most → ByteUpTo most (b ∷ []) b

-- "a missing byte is 2 at its place"
pub data ByteFault : List ℕ → (number place : ℕ) → Type 0 where
  no_byte : ByteFault [] 2 0

-- and one that is greater has the fault of a number, at that byte
pub data UpToFault (most number : ℕ) : List ℕ → (number place : ℕ) → Type 0 where
  no_byte_up_to : UpToFault most number [] 2 0
  above : {b : ℕ} (rest : List ℕ) → most < b → UpToFault most number (b ∷ rest) number 0
