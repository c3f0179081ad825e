-- Rules R1.8, R1.13 and R4.4 of docs/RULES.md.
-- Sized contents, and lists of numbered entries (WebAssembly specification, 5.1.3 Vectors, now called lists, and the appendix on custom sections, Name Maps). Assumes nothing.
use Rattle.std.specs.Prelude.{ℕ, zero, suc, ◌<◌, List, [], ◌++◌, length}
use Rattle.format.specs.Tables.{Table, nil, row}
use Rattle.grammar.specs.Numbers.{Grammar, U32}

-- size:u32 contents (if size = ||contents||), meaning the contents
pub data Sized : List ℕ → List ℕ → Type 0 where
  sized : {size contents : List ℕ} → U32 size (length contents) → Sized (size ++ contents) contents

module _ {A : Type 0} where
  -- (x:B)^n, where each x is a number and a value: n of them, one after another
  pub data Entries (B : Grammar A) : ℕ → List ℕ → Table A → Type 0 where
    no_entry : Entries B zero [] nil
    entry : {number value others : List ℕ} {n k : ℕ} {v : A} {t : Table A} → U32 number k → B value v → Entries B n others t → Entries B (suc n) (number ++ value ++ others) (row k v t)

  -- "in order of increasing index value. Each index must be unique"
  pub data Increasing : Table A → Type 0 where
    no_row : Increasing nil
    one_row : {k : ℕ} {v : A} → Increasing (row k v nil)
    two_rows : {j k : ℕ} {u v : A} {t : Table A} → j < k → Increasing (row k v t) → Increasing (row j u (row k v t))

  -- list(B) ::= n:u32 (x:B)^n ⇒ x^n
  pub data Listed (B : Grammar A) : List ℕ → Table A → Type 0 where
    listed : {count entries : List ℕ} {n : ℕ} {t : Table A} → U32 count n → Entries B n entries t → Increasing t → Listed B (count ++ entries) t
