-- Rules R4.2, R4.7 and R19.2 of docs/RULES.md.
-- Faults of name payloads. Assumes nothing.
use Rattle.std.specs.Prelude.{ℕ, ◌+◌, ◌≤◌, List, ◌∷◌, ◌++◌, length}
use Rattle.std.proofs.Math.Option.{Option, none, some}
use Rattle.format.specs.Names.{Kind, one_name, name_map, indirect_map, Content}
use Rattle.grammar.specs.Numbers.{U32}
use Rattle.grammar.specs.Lists.{Sized}
use Rattle.grammar.specs.Names.{Name, NameMap, IndirectNameMap, Contents}
use Rattle.grammar.specs.Faults.Numbers.{Faults}
use Rattle.grammar.specs.Faults.Parts.{SizedFault, NameFault, FillingFault}
use Rattle.grammar.specs.Faults.Lists.{Above, ListFault}

abbrev pub NameMapFault : Faults
NameMapFault = ListFault Name NameFault

abbrev pub IndirectNameMapFault : Faults
IndirectNameMapFault = ListFault NameMap NameMapFault

-- "Known contents fill the stated size exactly." Contents that are kept have no fault
pub data ContentsFault : Kind → List ℕ → (number place : ℕ) → Type 0 where
  in_aName : {bs : List ℕ} {n at : ℕ} → FillingFault Name NameFault bs n at → ContentsFault one_name bs n at
  in_aName_map : {bs : List ℕ} {n at : ℕ} → FillingFault NameMap NameMapFault bs n at → ContentsFault name_map bs n at
  in_an_indirect_name_map : {bs : List ℕ} {n at : ℕ} → FillingFault IndirectNameMap IndirectNameMapFault bs n at → ContentsFault indirect_map bs n at

-- Everything from here on is said over any table of ids
module _ (Ids : ℕ → Kind → Type 0) where
  -- subsections up to the end, behind one with the id `last`
  pub data SubsectionsFault : (last : Option ℕ) → List ℕ → (number place : ℕ) → Type 0 where
    -- R18.9: "9 | subsection id not above the one before | id byte", before the size is read
    id_not_above : {j id : ℕ} (rest : List ℕ) → id ≤ j → SubsectionsFault (some j) (id ∷ rest) 9 0
    in_the_size : {last : Option ℕ} {id : ℕ} {rest : List ℕ} {n at : ℕ} → Above last id → SizedFault rest n at → SubsectionsFault last (id ∷ rest) n (1 + at)
    in_the_contents : {last : Option ℕ} {id : ℕ} {kind : Kind} {size contents : List ℕ} {n at : ℕ} (rest : List ℕ) → Above last id → U32 size (length contents) → Ids id kind → ContentsFault kind contents n at → SubsectionsFault last (id ∷ (size ++ (contents ++ rest))) n (1 + (length size + at))
    further_on : {last : Option ℕ} {id : ℕ} {kind : Kind} {part contents rest : List ℕ} {c : Content (List ℕ)} {n at : ℕ} → Above last id → Sized part contents → Ids id kind → Contents kind contents c → SubsectionsFault (some id) rest n at → SubsectionsFault last (id ∷ (part ++ rest)) n (1 + (length part + at))

  abbrev pub NamePayloadFault : Faults
  NamePayloadFault = SubsectionsFault none
