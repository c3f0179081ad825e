-- Rules R6.1 to R6.5 of docs/RULES.md.
-- Code metadata and branch hints (WebAssembly Code Metadata Specification, 2 Binary Format). Assumes nothing.
use Rattle.std.specs.Prelude.{ℕ, List, [], ◌∷◌}
use Rattle.format.specs.Tables.{Table}
use Rattle.grammar.specs.Numbers.{Grammar}
use Rattle.grammar.specs.Lists.{Sized, Listed}

-- what the data of a format may be
abbrev pub Format : Type 1
Format = List ℕ → Type 0

-- codemetadataitem(T) ::= off:u32 size:u32 data:T (if size = ||T||); the offset is the entry's number in its list
pub data Item (T : Format) : List ℕ → List ℕ → Type 0 where
  item : {bs data' : List ℕ} → Sized bs data' → T data' → Item T bs data'

-- codemetadatafunc(T) ::= x:funcidx list(codemetadataitem(T)), codemetadata(T) ::= .. list(codemetadatafunc(T)), both "in order of increasing" number, "and duplicate" ones "are not allowed"
abbrev pub CodeMetadata : Format → Grammar (Table (Table (List ℕ)))
CodeMetadata T = Listed (Listed (Item T))

-- a format that is not known: any bytes
pub data Unknown : List ℕ → Type 0 where
  any_data : {bs : List ℕ} → Unknown bs

-- branchhint ::= unlikely | likely, unlikely ::= 0x00, likely ::= 0x01
pub data BranchHint : List ℕ → Type 0 where
  unlikely : BranchHint (0x00 ∷ [])
  likely : BranchHint (0x01 ∷ [])
