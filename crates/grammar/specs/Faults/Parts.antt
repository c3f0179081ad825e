-- Rules R1.8, R1.9, R1.12 and R4.7 of docs/RULES.md.
-- Faults of sized parts and of names, and bytes left over. Assumes nothing.
use Rattle.std.specs.Prelude.{ℕ, ◌<◌, List, ◌∷◌, ◌++◌, length}
use Rattle.grammar.specs.Numbers.{Grammar, U32}
use Rattle.grammar.specs.Texts.{Text}
use Rattle.grammar.specs.Faults.Numbers.{Faults, NumberFault}

pub data SizedFault : List ℕ → (number place : ℕ) → Type 0 where
  in_the_size : {bs : List ℕ} {n at : ℕ} → NumberFault bs n at → SizedFault bs n at
  -- R18.2: "2 | a number, name or sized part runs past its enclosing part | first byte of the number (for a name or sized part, of its length)"
  runs_past : {size : List ℕ} {n : ℕ} (rest : List ℕ) → U32 size n → length rest < n → SizedFault (size ++ rest) 2 0

pub data NameFault : List ℕ → (number place : ℕ) → Type 0 where
  in_the_length : {bs : List ℕ} {n at : ℕ} → SizedFault bs n at → NameFault bs n at
  -- R18.4: "4 | text not UTF-8 | first byte of the text"
  not_text : {size text : List ℕ} (rest : List ℕ) → U32 size (length text) → ((characters : List ℕ) → Text text characters → ⊥) → NameFault (size ++ (text ++ rest)) 4 (length size)

-- what must fill its part, by its grammar and its faults
pub data FillingFault {A : Type 0} (B : Grammar A) (BFault : Faults) : List ℕ → (number place : ℕ) → Type 0 where
  within : {bs : List ℕ} {n at : ℕ} → BFault bs n at → FillingFault B BFault bs n at
  -- R18.10: "10 | bytes left over in a subsection or a metadata payload | first of them"
  left_over : {bs : List ℕ} {v : A} (b : ℕ) (others : List ℕ) → B bs v → FillingFault B BFault (bs ++ (b ∷ others)) 10 (length bs)
