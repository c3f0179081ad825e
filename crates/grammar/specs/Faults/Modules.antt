-- Rules R2.1 to R2.10 and R19.1 of docs/RULES.md.
-- Faults of a module's frame. Assumes nothing.
use Rattle.std.specs.Prelude.{ℕ, ◌+◌, ◌<◌, true, List, ◌∷◌, ◌++◌, ◌≢◌, ◌≡◌, length}
use Rattle.format.specs.Walk.{name_section, Tracked, tracked}
use Rattle.grammar.specs.Numbers.{U32}
use Rattle.grammar.specs.Modules.{magic, version, Section, Framed, Sections, Among, Before, Called, section_order, Ordered}
use Rattle.grammar.specs.Faults.Parts.{SizedFault, NameFault}

-- "Reading is left to right, and each check is made once the bytes it needs are read: id (5, 6, 8 for data), size (2, 3), custom name (2, 3, 4), then 7, then 8 for hints." All of it is said of one section behind those before it.

-- an id that is not custom stands behind those before it, in the order of sections
abbrev pub InOrder : List Section → ℕ → Type 0
InOrder before id = (s : Section) → Among s before → s.id ≢ 0 → id ≢ 0 → Before s.id id section_order

-- what an id keeps, once it is read
pub record IdKept (before : List Section) (id : ℕ) : Type 0 where
  pub known : Among id (0 ∷ section_order)
  pub in_order : InOrder before id
  pub no_data : (s : Section) → Among s before → Called name_section s → id ≢ 11

pub data SectionFault (before : List Section) : List ℕ → (number place : ℕ) → Type 0 where
  -- R18.5: "5 | section id above 12 | id byte"; K1: "5 for ids above 13"
  unknown_id : {id : ℕ} (rest : List ℕ) → 13 < id → SectionFault before (id ∷ rest) 5 0
  -- R18.6: "6 | section repeated or out of order | id byte"; K1: "6 by the new order"
  out_of_order : {id : ℕ} {s : Section} (rest : List ℕ) → Among id section_order → Among s before → s.id ≢ 0 → (Before s.id id section_order → ⊥) → SectionFault before (id ∷ rest) 6 0
  -- R18.8: "8 | data after `name`; .. | id byte of the later section"
  data_after_name : {s : Section} (rest : List ℕ) → InOrder before 11 → Among s before → Called name_section s → SectionFault before (11 ∷ rest) 8 0
  in_the_size : {id : ℕ} {rest : List ℕ} {n at : ℕ} → IdKept before id → SizedFault rest n at → SectionFault before (id ∷ rest) n (1 + at)
  in_the_name : {size contents : List ℕ} {n at : ℕ} (rest : List ℕ) → U32 size (length contents) → NameFault contents n at → SectionFault before (0 ∷ (size ++ (contents ++ rest))) n (1 + (length size + at))
  -- R18.7: "7 | second `name` or `metadata.code.branch_hint` | its id byte"; K2: and `branchHints`, "counted by itself"
  second_of_its_name : {bs : List ℕ} {s t : Section} {x : Tracked} (rest : List ℕ) → Framed bs t → Among x tracked → Called x.name t → Among s before → Called x.name s → SectionFault before (bs ++ rest) 7 0
  -- R18.8: "8 | ..; hints after code | id byte of the later section", where it is no 7
  hints_after_code : {bs : List ℕ} {s t : Section} {x : Tracked} (rest : List ℕ) → Framed bs t → Among x tracked → x.before_code ≡ true → Called x.name t → ((s : Section) → Among s before → Called x.name s → ⊥) → Among s before → s.id ≡ 10 → SectionFault before (bs ++ rest) 8 0

pub data ModuleFault : List ℕ → (number place : ℕ) → Type 0 where
  -- R18.1: "1 | preamble missing or different | 0"
  no_preamble : {m : List ℕ} → ((bs : List ℕ) → m ≢ magic ++ version ++ bs) → ModuleFault m 1 0
  -- sections that are well, and a fault of the next
  in_aSection : {front rest : List ℕ} {ss : List Section} {n at : ℕ} → Sections front ss → Ordered ss → SectionFault ss rest n at → ModuleFault (magic ++ version ++ (front ++ rest)) n (8 + (length front + at))
