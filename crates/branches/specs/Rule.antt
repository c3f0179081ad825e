-- Rules R15.1, R15.2, R15.8 and R15.13 to R15.16 of docs/RULES.md.
-- K6. The rule of hints on branches once more, by the grammar and without a step: what is true of a place in a body, which hint is refused, and how. Assumes nothing.
use Rattle.std.specs.Prelude.{ℕ, ◌+◌, ◌<◌, true, false, List, ◌∷◌, ◌++◌, ◌≡◌}
use Rattle.std.proofs.Math.Option.{none, some}
use Rattle.format.specs.Metadata.{hint_item, judge_metadata}
use Rattle.format.specs.Parts.{Part}
use Rattle.format.specs.Reading.{accepted, judge}
use Rattle.format.specs.Tables.{Table}
use Rattle.format.specs.Walk.{hint_section, custom_payload}
use Rattle.grammar.specs.Metadata.{BranchHint}
use Rattle.grammar.specs.Modules.{Among}
use Rattle.grammar.specs.Faults.Metadata.{HintFault, MetadataFault}
use Rattle.grammar.specs.Faults.Modules.{ModuleFault}
use Rattle.branches.specs.Bodies.{body_of, is_branch}
use Rattle.branches.specs.Branches.{contents_of, imported_functions, function_bodies}
use Rattle.branches.specs.Faults.{ImportsFault, BodiesFault}
use Rattle.branches.specs.Grammar.{Instruction, Locals, Begins}
use Rattle.branches.specs.Hints.{Placed, Hints, all_hints}

-- A PLACE in a body. Bytes can be read where some of them, from the first on, are what the grammar has
pub record Readable (G : List ℕ → Type 0) (bs : List ℕ) : Type 0 where
  pub front : List ℕ
  pub behind : List ℕ
  pub is : bs ≡ front ++ behind
  pub means : G front

-- "20, the locals or an instruction starting before the hinted place can't be read by version 1.0"
pub data CannotBeRead (body : List ℕ) (offset : ℕ) : Type 0 where
  the_locals : (Readable Locals body → ⊥) → CannotBeRead body offset
  an_instruction : {place op : ℕ} (b : Begins body place op) → place < offset → (Readable Instruction (op ∷ b.others) → ⊥) → CannotBeRead body offset

-- "else 21, not on a branch": the locals and every instruction that starts before the place can be read, and no br_if and no if begins there
pub record NotOnABranch (body : List ℕ) (offset : ℕ) : Type 0 where
  pub locals_read : Readable Locals body
  pub instructions_read : {place op : ℕ} (b : Begins body place op) → place < offset → Readable Instruction (op ∷ b.others)
  pub no_branch : {op : ℕ} → Begins body offset op → is_branch op ≡ false

-- A HINT sits on a branch: its function has a body, of which a br_if or an if begins at its offset
pub record Sits (first : ℕ) (parts : List Part) (function offset : ℕ) : Type 0 where
  pub body : Part
  pub its_body : body_of first parts function ≡ some body
  pub op : ℕ
  pub is_branch_lem : is_branch op ≡ true
  pub begins : Begins body.bytes offset op

-- or it is refused: "19, no body for that function, at the function index; at the hint's offset number 20 .., else 21"
pub data HintRefused (first : ℕ) (parts : List Part) (f : Placed Hints) (h : Placed Part) : (number offset : ℕ) → Type 0 where
  no_body : body_of first parts f.number ≡ none → HintRefused first parts f h 19 f.at
  cannot_be_read : {body : Part} → body_of first parts f.number ≡ some body → CannotBeRead body.bytes h.number → HintRefused first parts f h 20 h.at
  not_on_aBranch : {body : Part} → body_of first parts f.number ≡ some body → NotOnABranch body.bytes h.number → HintRefused first parts f h 21 h.at

-- ALL HINTS, by function: each sits
abbrev pub HintsSit : (first : ℕ) → List Part → Placed Hints → Type 0
HintsSit first parts f = (h : Placed Part) → Among h f.value → Sits first parts f.number h.number

abbrev pub AllSit : (first : ℕ) → List Part → List (Placed Hints) → Type 0
AllSit first parts fs = (f : Placed Hints) → Among f fs → HintsSit first parts f

-- or one of a list is refused, and all before it are fine
pub data FirstRefused {A : Type 0} (Fine : A → Type 0) (Refused : A → (number offset : ℕ) → Type 0) : List A → (number offset : ℕ) → Type 0 where
  this_one : {x : A} {xs : List A} {number offset : ℕ} → Refused x number offset → FirstRefused Fine Refused (x ∷ xs) number offset
  a_later_one : {x : A} {xs : List A} {number offset : ℕ} → Fine x → FirstRefused Fine Refused xs number offset → FirstRefused Fine Refused (x ∷ xs) number offset

-- "Hints go in section order."
abbrev pub FirstOfFunction : (first : ℕ) → List Part → Placed Hints → (number offset : ℕ) → Type 0
FirstOfFunction first parts f = FirstRefused (λ h. Sits first parts f.number h.number) (HintRefused first parts f) f.value

abbrev pub FirstOfAll : (first : ℕ) → List Part → List (Placed Hints) → (number offset : ℕ) → Type 0
FirstOfAll first parts fs = FirstRefused (HintsSit first parts) (FirstOfFunction first parts) fs

-- A MODULE with hints: its walk and the payload are accepted
pub record HasHints (m : List ℕ) : Type 0 where
  pub payload : Part
  pub hints : Table (Table Part)
  pub found : custom_payload hint_section m ≡ accepted (some payload)
  pub judged : judge_metadata hint_item payload.at payload.bytes ≡ accepted hints

-- and so are the import list and the list of bodies: `first` functions are imported, and these are the bodies and the hints
pub record Hinted (m : List ℕ) (first : ℕ) (parts : List Part) (fs : List (Placed Hints)) : Type 0 where
  pub has_hints : HasHints m
  pub imported : imported_functions m ≡ accepted first
  pub listed : function_bodies m ≡ accepted parts
  pub placed : judge (all_hints has_hints.payload.at has_hints.payload.bytes) ≡ accepted fs

-- The module's faults, and those of the payload, of the import section and of the code section where they lie. "Refusals, after all of document 01's for module and payload: faults in the import list, then in the list of sized bodies ..; then per hint"
pub data ModuleRefused (m : List ℕ) : (number offset : ℕ) → Type 0 where
  by_the_walk : {number offset : ℕ} → ModuleFault m number offset → ModuleRefused m number offset
  by_the_payload : {p : Part} {number place : ℕ} → custom_payload hint_section m ≡ accepted (some p) → MetadataFault BranchHint HintFault p.bytes number place → ModuleRefused m number (p.at + place)
  by_the_imports : {p : Part} {number place : ℕ} → HasHints m → contents_of 2 m ≡ accepted (some p) → ImportsFault p.bytes number place → ModuleRefused m number (p.at + place)
  by_the_bodies : {first : ℕ} {p : Part} {number place : ℕ} → HasHints m → imported_functions m ≡ accepted first → contents_of 10 m ≡ accepted (some p) → BodiesFault p.bytes number place → ModuleRefused m number (p.at + place)
  by_aHint : {first : ℕ} {parts : List Part} {fs : List (Placed Hints)} {number offset : ℕ} → Hinted m first parts fs → FirstOfAll first parts fs number offset → ModuleRefused m number offset
