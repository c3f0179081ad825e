-- Rule R21.1 of docs/RULES.md.
-- What is refused, said a second way: the files in Faults/ write down the table of refusals and the order of checks as faults, apart from the readers, and here stands that the library refuses exactly what has a fault, with its number and at its place. A reader that checks in another order, or gives another number or offset, by a mistaken definition would differ from the faults, which can be held against the table row by row.
use Rattle.std.specs.Prelude.{ℕ, ◌+◌, ◌≤◌, List, ◌++◌, ◌↔◌, ◌≡◌}
use Rattle.format.specs.Bytes.{Bytes}
use Rattle.format.specs.Reading.{stop, Reader, Judged, refused, map_judged}
use Rattle.format.specs.Numbers.{number}
use Rattle.format.specs.Parts.{sized, name}
use Rattle.format.specs.Names.{Kind, known_kind, wider_kind, judge_names}
use Rattle.format.specs.Metadata.{any_item, hint_item, judge_metadata}
use Rattle.format.specs.Tables.{map_table}
use Rattle.format.specs.Canonical.{bare, bare_items}
use Rattle.format.specs.Lists.{function_names}
use Rattle.format.specs.Older.{judge_older}
use Rattle.format.specs.Walk.{walk}
use Rattle.grammar.specs.Numbers.{Grammar, U32}
use Rattle.grammar.specs.Lists.{Sized}
use Rattle.grammar.specs.Names.{Name, SourceIds, WiderIds, NamePayload}
use Rattle.grammar.specs.Metadata.{CodeMetadata, Unknown, BranchHint}
use Rattle.grammar.specs.Modules.{Module}
use Rattle.grammar.specs.Older.{OlderHints}
use Rattle.grammar.specs.Forgetting.{bare_sections}
use Rattle.grammar.specs.Faults.Numbers.{Faults, NumberFault}
use Rattle.grammar.specs.Faults.Parts.{SizedFault, NameFault}
use Rattle.grammar.specs.Faults.Names.{NamePayloadFault}
use Rattle.grammar.specs.Faults.Metadata.{AnyItemFault, HintFault, MetadataFault}
use Rattle.grammar.specs.Faults.Older.{OlderFault}
use Rattle.grammar.specs.Faults.Modules.{ModuleFault}
use Rattle.grammar.specs.Faults.Writing.{FineLists, contents_length, ListsFault}
use Rattle.grammar.proofs.Grammar.{Accepts, ids_exact, metadata_exact, hints_exact, older_exact, modules_exact}
use Rattle.grammar.proofs.Laws.Names.{SameIds, source_ids, wider_ids}
use Rattle.grammar.specs.Laws.Faults.Stops.{Reads}
use Rattle.grammar.proofs.Laws.Faults.Numbers.{number_reads}
use Rattle.grammar.proofs.Laws.Faults.Parts.{sized_reads, name_reads}
use Rattle.grammar.proofs.Laws.Faults.Names.{payload_faults}
use Rattle.grammar.proofs.Laws.Faults.Metadata.{any_reads, hint_reads, metadata_faults}
use Rattle.grammar.proofs.Laws.Faults.Older.{older_faults}
use Rattle.grammar.proofs.Laws.Faults.Writing.{lists_found, lists_stop, one_list_fault, lists_not_fine, by_fault}
use Rattle.grammar.proofs.Laws.Faults.Judgements.{Judges, refuses_exactly, one_fault_only, faulty_exactly, judged_by, walked, halts_exactly, one_halt, halting_exactly}

-- "Bad input gets a refusal number and the offset document 01 gives with it." Of a judgement of bytes that begin at an offset of what was lent:
module _ {A B : Type 0} (at : ℕ) (judgement : List ℕ → Judged A) (grammar : Grammar B) (Fault : Faults) where
  pub record Refuses : Type 0 where
    -- it refuses with a number and an offset exactly where the bytes have the fault of that number at that place
    pub refused_exactly : (p : List ℕ) → Bytes p → (number offset : ℕ) → (judgement p ≡ refused number offset) ↔ ((place : ℕ) × (offset ≡ at + place) × Fault p number place)
    -- no bytes have two faults
    pub one_fault : (p : List ℕ) (n m i j : ℕ) → Fault p n i → Fault p m j → (n ≡ m) × (i ≡ j)
    -- bytes have a fault exactly where they have no meaning
    pub faulty_exactly : (p : List ℕ) → Bytes p → ((number place : ℕ) × Fault p number place) ↔ ((m : B) → grammar p m → ⊥)

-- A number, a sized part and a name are read from bytes that may go on behind them: these have a fault exactly where they do not begin with one
module _ {A B : Type 0} (read : Reader A) (grammar : Grammar B) (Fault : Faults) where
  pub record Halts : Type 0 where
    pub stops_exactly : (at : ℕ) (bs : List ℕ) → Bytes bs → (number offset : ℕ) → (read at bs ≡ stop number offset) ↔ ((place : ℕ) × (offset ≡ at + place) × Fault bs number place)
    pub one_fault : (bs : List ℕ) (n m i j : ℕ) → Fault bs n i → Fault bs m j → (n ≡ m) × (i ≡ j)
    pub faulty_exactly : (bs : List ℕ) → Bytes bs → ((number place : ℕ) × Fault bs number place) ↔ ((front rest : List ℕ) (m : B) → bs ≡ front ++ rest → grammar front m → ⊥)

-- The lists of the writer are refused in the same way: exactly at their faults, of which they have one at most, and none exactly where they are fine and the subsection is not too large
pub record RefusesLists : Type 0 where
  pub refused_exactly : (indices lengths text : List ℕ) (number place : ℕ) → (function_names indices lengths text ≡ refused number place) ↔ ListsFault indices lengths text number place
  pub one_fault : (indices lengths text : List ℕ) (n m i j : ℕ) → ListsFault indices lengths text n i → ListsFault indices lengths text m j → (n ≡ m) × (i ≡ j)
  pub faulty_exactly : (indices lengths text : List ℕ) → ((number place : ℕ) × ListsFault indices lengths text number place) ↔ (FineLists indices lengths text → contents_length indices lengths ≤ 4_294_967_295 → ⊥)

-- THE PROOFS

module _ {A B : Type 0} {read : Reader A} {plain : A → B} {grammar : Grammar B} {F : Faults} (r : Reads read plain grammar F) where
  halting : Halts read grammar F
  halting = record { stops_exactly = halts_exactly r; one_fault = one_halt r; faulty_exactly = halting_exactly r }

pub numbers_halt : Halts number U32 NumberFault
numbers_halt = halting number_reads

pub sized_halt : Halts sized Sized SizedFault
sized_halt = halting sized_reads

pub names_halt : Halts name Name NameFault
names_halt = halting name_reads

module _ {A B : Type 0} {at : ℕ} {judgement : List ℕ → Judged A} (plain : A → B) {grammar : Grammar B} {F : Faults} (j : Judges at judgement F) (exact : Accepts (λ p. map_judged plain (judgement p)) grammar) where
  refusing : Refuses at judgement grammar F
  refusing = record { refused_exactly = refuses_exactly j; one_fault = one_fault_only j; faulty_exactly = faulty_exactly j plain exact.refused_exactly }

-- a name payload, wherever it begins in what was lent, over any table of ids, in each edition
pub ids_refused : {Ids : ℕ → Kind → Type 0} {kind_of : ℕ → Kind} → SameIds Ids kind_of → (at : ℕ) → Refuses at (judge_names kind_of at) (NamePayload Ids) (NamePayloadFault Ids)
unfolding judge_names
ids_refused ids at = refusing (map_table bare) (judged_by (payload_faults ids) at) (ids_exact ids at)

pub names_refused : (at : ℕ) → Refuses at (judge_names known_kind at) (NamePayload SourceIds) (NamePayloadFault SourceIds)
names_refused at = ids_refused source_ids at

pub wider_names_refused : (at : ℕ) → Refuses at (judge_names wider_kind at) (NamePayload WiderIds) (NamePayloadFault WiderIds)
wider_names_refused at = ids_refused wider_ids at

-- code metadata of any format, and branch hints
pub metadata_refused : (at : ℕ) → Refuses at (judge_metadata any_item at) (CodeMetadata Unknown) (MetadataFault Unknown AnyItemFault)
unfolding judge_metadata
metadata_refused at = refusing bare_items (judged_by (metadata_faults any_reads) at) (metadata_exact at)

pub hints_refused : (at : ℕ) → Refuses at (judge_metadata hint_item at) (CodeMetadata BranchHint) (MetadataFault BranchHint HintFault)
unfolding judge_metadata
hints_refused at = refusing bare_items (judged_by (metadata_faults hint_reads) at) (hints_exact at)

-- K2: hints of the older edition
pub older_refused : (at : ℕ) → Refuses at (judge_older at) OlderHints OlderFault
unfolding judge_older
older_refused at = refusing (λ v. v) (judged_by older_faults at) (older_exact at)

-- the frame of a module
pub modules_refused : Refuses 0 walk Module ModuleFault
modules_refused = refusing bare_sections walked modules_exact

-- the lists that function names are written from
pub lists_refused : RefusesLists
lists_refused = record {
  refused_exactly = λ is ns text n at. (lists_found is ns text n at, λ f. lists_stop is ns text f);
  one_fault = one_list_fault;
  faulty_exactly = λ is ns text. (λ f. lists_not_fine is ns text f.2, λ h. by_fault is ns text (λ n at f. (n, at, f)) (λ fine small. absurd (h fine small)));
}
