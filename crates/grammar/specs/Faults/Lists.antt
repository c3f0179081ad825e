-- Rules R1.13 and R19.3 of docs/RULES.md.
-- Faults of lists of numbered entries. Assumes nothing.
use Rattle.std.specs.Prelude.{ℕ, suc, ◌+◌, ◌≤◌, ◌<◌, List, ◌++◌, length}
use Rattle.std.proofs.Math.Option.{Option, none, some}
use Rattle.grammar.specs.Numbers.{Grammar, U32}
use Rattle.grammar.specs.Faults.Numbers.{Faults, NumberFault}

-- a number is above the one before it, if there is one
pub data Above : Option ℕ → ℕ → Type 0 where
  the_first : {k : ℕ} → Above none k
  above_last : {j k : ℕ} → j < k → Above (some j) k

module _ {A : Type 0} (B : Grammar A) (BFault : Faults) where
  -- entries of which n are to come, behind one with the number `last`
  pub data EntriesFault : (n : ℕ) (last : Option ℕ) → List ℕ → (number place : ℕ) → Type 0 where
    in_the_number : {n : ℕ} {last : Option ℕ} {bs : List ℕ} {m at : ℕ} → NumberFault bs m at → EntriesFault (suc n) last bs m at
    -- R18.11: "11 | index or offset not above the one before | that number", once it is read, and before what follows it
    not_above_lem : {n j k : ℕ} {number : List ℕ} (rest : List ℕ) → U32 number k → k ≤ j → EntriesFault (suc n) (some j) (number ++ rest) 11 0
    in_the_value : {n k : ℕ} {last : Option ℕ} {number rest : List ℕ} {m at : ℕ} → U32 number k → Above last k → BFault rest m at → EntriesFault (suc n) last (number ++ rest) m (length number + at)
    further_on : {n k : ℕ} {last : Option ℕ} {number value rest : List ℕ} {v : A} {m at : ℕ} → U32 number k → Above last k → B value v → EntriesFault n (some k) rest m at → EntriesFault (suc n) last (number ++ (value ++ rest)) m (length number + (length value + at))

  -- A list's count is no fault by itself: the first entry that is missing is
  pub data ListFault : List ℕ → (number place : ℕ) → Type 0 where
    in_the_count : {bs : List ℕ} {m at : ℕ} → NumberFault bs m at → ListFault bs m at
    in_the_entries : {count rest : List ℕ} {n m at : ℕ} → U32 count n → EntriesFault n none rest m at → ListFault (count ++ rest) m (length count + at)
