-- Rules R7.1 to R7.5 of docs/RULES.md.
-- K2: the older edition of hints (the older branch hinting proposal, Branch Hints Section). Assumes nothing.
use Rattle.std.specs.Prelude.{ℕ, zero, suc, List, [], ◌∷◌, ◌++◌}
use Rattle.format.specs.Older.{OlderHint, OlderEntry}
use Rattle.format.specs.declared.Hint.{Hint}
use Rattle.format.specs.declared.Hint.TheVariants.{Unlikely, Likely}
use Rattle.grammar.specs.Numbers.{Grammar, U32}

-- vec(B) ::= n:u32 (x:B)^n ⇒ x^n: a vector demands no order
module _ {A : Type 0} where
  pub data Times (B : Grammar A) : ℕ → List ℕ → List A → Type 0 where
    no_more : Times B zero [] []
    one_more : {first others : List ℕ} {n : ℕ} {v : A} {vs : List A} → B first v → Times B n others vs → Times B (suc n) (first ++ others) (v ∷ vs)

  pub data Vector (B : Grammar A) : List ℕ → List A → Type 0 where
    vector : {count entries : List ℕ} {n : ℕ} {vs : List A} → U32 count n → Times B n entries vs → Vector B (count ++ entries) vs

-- branchhintkind ::= 0x00 | 0x01. The rules have it as a number, "however the kind is padded"
pub data OlderKind : List ℕ → Hint → Type 0 where
  unlikely : {bs : List ℕ} → U32 bs 0 → OlderKind bs Unlikely
  likely : {bs : List ℕ} → U32 bs 1 → OlderKind bs Likely

-- branchhint ::= branchhintkind instoff:u32
pub data OlderBranchHint : List ℕ → OlderHint → Type 0 where
  branch_hint : {kind offset : List ℕ} {h : Hint} {n : ℕ} → OlderKind kind h → U32 offset n → OlderBranchHint (kind ++ offset) (record { kind = h; offset = n })

-- funcbranchhints ::= funcidx 0x00 vec(branchhint)
pub data FunctionBranchHints : List ℕ → OlderEntry → Type 0 where
  function_hints : {function hints : List ℕ} {n : ℕ} {hs : List OlderHint} → U32 function n → Vector OlderBranchHint hints hs → FunctionBranchHints (function ++ (0 ∷ hints)) (record { function = n; hints = hs })

-- branchhintssec: "a vector of function branch hints"
abbrev pub OlderHints : Grammar (List OlderEntry)
OlderHints = Vector FunctionBranchHints
