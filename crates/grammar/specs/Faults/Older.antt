-- Rules R7.2 to R7.4 and R19.5 of docs/RULES.md.
-- K2: faults of the older edition of hints. Assumes nothing.
use Rattle.std.specs.Prelude.{ℕ, suc, ◌+◌, ◌<◌, List, ◌∷◌, ◌++◌, ◌≢◌, length}
use Rattle.format.specs.declared.Hint.{Hint}
use Rattle.grammar.specs.Numbers.{Grammar, U32}
use Rattle.grammar.specs.Older.{OlderKind, OlderBranchHint, FunctionBranchHints, OlderHints}
use Rattle.grammar.specs.Faults.Numbers.{Faults, NumberFault}
use Rattle.grammar.specs.Faults.Parts.{FillingFault}

-- a vector, of which n are to come; its count is no fault by itself
module _ {A : Type 0} (B : Grammar A) (BFault : Faults) where
  pub data TimesFault : (n : ℕ) → List ℕ → (number place : ℕ) → Type 0 where
    in_the_next : {n : ℕ} {bs : List ℕ} {m at : ℕ} → BFault bs m at → TimesFault (suc n) bs m at
    further_on : {n : ℕ} {first rest : List ℕ} {v : A} {m at : ℕ} → B first v → TimesFault n rest m at → TimesFault (suc n) (first ++ rest) m (length first + at)

  pub data VectorFault : List ℕ → (number place : ℕ) → Type 0 where
    in_the_count : {bs : List ℕ} {m at : ℕ} → NumberFault bs m at → VectorFault bs m at
    in_the_entries : {count rest : List ℕ} {n m at : ℕ} → U32 count n → TimesFault n rest m at → VectorFault (count ++ rest) m (length count + at)

pub data OlderKindFault : List ℕ → (number place : ℕ) → Type 0 where
  in_the_number : {bs : List ℕ} {n at : ℕ} → NumberFault bs n at → OlderKindFault bs n at
  -- R18.12: "12 also for a kind above 1, at the kind, before the offset is read"
  kind_above : {kind : List ℕ} {k : ℕ} (rest : List ℕ) → U32 kind k → 1 < k → OlderKindFault (kind ++ rest) 12 0

pub data OlderHintFault : List ℕ → (number place : ℕ) → Type 0 where
  in_the_kind : {bs : List ℕ} {n at : ℕ} → OlderKindFault bs n at → OlderHintFault bs n at
  in_the_offset : {kind rest : List ℕ} {h : Hint} {n at : ℕ} → OlderKind kind h → NumberFault rest n at → OlderHintFault (kind ++ rest) n (length kind + at)

pub data OlderFunctionFault : List ℕ → (number place : ℕ) → Type 0 where
  in_the_function : {bs : List ℕ} {n at : ℕ} → NumberFault bs n at → OlderFunctionFault bs n at
  -- R18.17: "17, the byte is not zero, at that byte (missing: 2 at its place)"
  missing : {function : List ℕ} {k : ℕ} → U32 function k → OlderFunctionFault function 2 (length function)
  not_zero : {function : List ℕ} {k b : ℕ} (rest : List ℕ) → U32 function k → b ≢ 0 → OlderFunctionFault (function ++ (b ∷ rest)) 17 (length function)
  in_the_hints : {function rest : List ℕ} {k n at : ℕ} → U32 function k → VectorFault OlderBranchHint OlderHintFault rest n at → OlderFunctionFault (function ++ (0 ∷ rest)) n (length function + (1 + at))

-- "10 as before": the list fills the payload
abbrev pub OlderFault : Faults
OlderFault = FillingFault OlderHints (VectorFault FunctionBranchHints OlderFunctionFault)
