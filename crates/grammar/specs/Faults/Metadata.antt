-- Rules R6.2 to R6.5 and R19.4 of docs/RULES.md.
-- Faults of code metadata and of branch hints. Assumes nothing.
use Rattle.std.specs.Prelude.{ℕ, ◌<◌, List, ◌∷◌, ◌++◌, ◌≢◌, length}
use Rattle.grammar.specs.Numbers.{U32}
use Rattle.grammar.specs.Lists.{Listed}
use Rattle.grammar.specs.Metadata.{Format, Item, CodeMetadata}
use Rattle.grammar.specs.Faults.Numbers.{Faults}
use Rattle.grammar.specs.Faults.Parts.{SizedFault, FillingFault}
use Rattle.grammar.specs.Faults.Lists.{ListFault}

-- An item of any format: its offset and 11 are the entry's in its list, and its size and data are a sized part
abbrev pub AnyItemFault : Faults
AnyItemFault = SizedFault

-- "In a hint: offset, 11, size, 2, then 12."
pub data HintFault : List ℕ → (number place : ℕ) → Type 0 where
  in_the_size : {bs : List ℕ} {n at : ℕ} → SizedFault bs n at → HintFault bs n at
  -- R18.12: "12 | hint of size other than 1, or data above 1 | the size number"
  other_size_lem : {size : List ℕ} (data' rest : List ℕ) → U32 size (length data') → length data' ≢ 1 → HintFault (size ++ (data' ++ rest)) 12 0
  data_above_lem : {size : List ℕ} {b : ℕ} (rest : List ℕ) → U32 size 1 → 1 < b → HintFault (size ++ (b ∷ rest)) 12 0

-- "The list fills the payload": functions, each with a list of items
abbrev pub MetadataFault : Format → Faults → Faults
MetadataFault T ItemFault = FillingFault (CodeMetadata T) (ListFault (Listed (Item T)) (ListFault (Item T) ItemFault))
