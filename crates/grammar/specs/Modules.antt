-- Rules R2.1 to R2.11 of docs/RULES.md.
-- The frame of a module (WebAssembly specification, 5.5 Modules), with the order of its sections as the rules want it. Assumes nothing.
use Rattle.std.specs.Prelude.{ℕ, true, List, [], ◌∷◌, ◌++◌, ◌≢◌, ◌≡◌}
use Rattle.std.proofs.Math.Option.{Option, none, some}
use Rattle.format.specs.Walk.{name_section, Tracked, tracked}
use Rattle.grammar.specs.Lists.{Sized}
use Rattle.grammar.specs.Names.{Name}

-- magic ::= 0x00 0x61 0x73 0x6D, version ::= 0x01 0x00 0x00 0x00
abbrev pub magic : List ℕ
magic = 0x00 ∷ 0x61 ∷ 0x73 ∷ 0x6D ∷ []

abbrev pub version : List ℕ
version = 0x01 ∷ 0x00 ∷ 0x00 ∷ 0x00 ∷ []

-- What a section means: its id, its contents, and of a custom section the name and the rest
pub record Custom : Type 0 where
  pub name : List ℕ
  pub payload : List ℕ

pub record Section : Type 0 where
  pub id : ℕ
  pub contents : List ℕ
  pub custom : Option Custom

-- section_N(B) ::= N:byte size:u32 cont:B (if size = ||B||); customsec ::= section_0(custom), custom ::= name byte*
pub data Framed : List ℕ → Section → Type 0 where
  custom_section : {part name text payload : List ℕ} → Sized part (name ++ payload) → Name name text → Framed (0 ∷ part) (record { id = 0; contents = name ++ payload; custom = some (record { name = text; payload = payload }) })
  other_section : {id : ℕ} {part contents : List ℕ} → id ≢ 0 → Sized part contents → Framed (id ∷ part) (record { id = id; contents = contents; custom = none })

-- sections one after another
pub data Sections : List ℕ → List Section → Type 0 where
  no_section : Sections [] []
  a_section : {bs others : List ℕ} {s : Section} {ss : List Section} → Framed bs s → Sections others ss → Sections (bs ++ others) (s ∷ ss)

-- one among others, and two of which the first stands before the second
pub data Among {A : Type 0} (y : A) : List A → Type 0 where
  here : {xs : List A} → Among y (y ∷ xs)
  further : {x : A} {xs : List A} → Among y xs → Among y (x ∷ xs)

pub data Before {A : Type 0} (x y : A) : List A → Type 0 where
  from_here : {xs : List A} → Among y xs → Before x y (x ∷ xs)
  from_further : {z : A} {xs : List A} → Before x y xs → Before x y (z ∷ xs)

-- a custom section of a name
pub record Called (x : List ℕ) (s : Section) : Type 0 where
  pub payload : List ℕ
  pub is : s.custom ≡ some (record { name = x; payload = payload })

-- K1. "The core specification orders them type, import, function, table, memory, tag (13), global, export, start, element, data count (12), code, data."
abbrev pub section_order : List ℕ
section_order = 1 ∷ 2 ∷ 3 ∷ 4 ∷ 5 ∷ 13 ∷ 6 ∷ 7 ∷ 8 ∷ 9 ∷ 12 ∷ 10 ∷ 11 ∷ []

-- What the rules say of every section, and of every two
pub record Ordered (ss : List Section) : Type 0 where
  -- "Ids run to 13."
  pub known : (s : Section) → Among s ss → Among s.id (0 ∷ section_order)
  -- those that are not custom occur at most once, in that order
  pub increasing : (s t : Section) → Before s t ss → s.id ≢ 0 → t.id ≢ 0 → Before s.id t.id section_order
  -- "At most one `name` section and at most one `metadata.code.branch_hint`"; K2: and at most one `branchHints`, "counted by itself"
  pub one_of_each : (x : Tracked) → Among x tracked → (s t : Section) → Before s t ss → Called x.name s → Called x.name t → ⊥
  -- "no data section (11) after `name`"
  pub data_before_name : (s t : Section) → Before s t ss → Called name_section s → t.id ≢ 11
  -- "no `metadata.code.branch_hint` after code (10)"; K2: and no `branchHints`
  pub before_code_lem : (x : Tracked) → Among x tracked → x.before_code ≡ true → (s t : Section) → Before s t ss → s.id ≡ 10 → Called x.name t → ⊥

-- module ::= magic version sections
pub data Module : List ℕ → List Section → Type 0 where
  a_module : {bs : List ℕ} {ss : List Section} → Sections bs ss → Ordered ss → Module (magic ++ version ++ bs) ss
