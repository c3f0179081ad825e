-- Rules R5.1 to R5.6, R5.8 and R5.10 of docs/RULES.md.
-- Questions to a name payload. Each answer is none, or the part of what was lent that is asked for, or a refusal. Assumes nothing.
use Rattle.std.specs.Prelude.{ℕ, ◌<◌, List, [], ◌≡◌, Ok, Err, Some, None}
use Rattle.std.proofs.Math.Option.{Option, none, some}
use Rattle.format.specs.Refusals.{number_of}
use Rattle.format.specs.Reading.{Judged, accepted, refused, map_judged}
use Rattle.format.specs.Numbers.{limit32}
use Rattle.format.specs.Options.{some_then, map_some}
use Rattle.format.specs.Parts.{Part, place_of}
use Rattle.format.specs.Tables.{Table, lookup}
use Rattle.format.specs.Names.{Kind, one_name, name_map, indirect_map, Content, single, names, names_by, whole, judge_names}
use Rattle.format.specs.Returned.{Answer}
use Rattle.format.specs.declared.Place.{Place}
use Rattle.format.specs.declared.Question.{Question}
use Rattle.format.specs.declared.Question.TheVariants.{ModuleName, FunctionName, LocalName, LabelName, TypeName, TableName, MemoryName, GlobalName, ElementName, DataName, FieldName, TagName, KeptContents}
use Rattle.format.specs.declared.Query.{Query}
use Rattle.format.specs.declared.Query.TheVariants.{ItsName, NameOf, NameWithin, ItsContents}

-- What a subsection's contents answer to what can be asked of it
module _ {X : Type 0} where
  abbrev pub answer_in : Query → Content X → Option X
  answer_in ItsName (single x) = some x
  answer_in ItsName (names t) = none
  answer_in ItsName (names_by t) = none
  answer_in ItsName (whole x) = none
  answer_in (NameOf k) (single x) = none
  answer_in (NameOf k) (names t) = lookup k t
  answer_in (NameOf k) (names_by t) = none
  answer_in (NameOf k) (whole x) = none
  answer_in (NameWithin k j) (single x) = none
  answer_in (NameWithin k j) (names t) = none
  answer_in (NameWithin k j) (names_by t) = some_then (lookup k t) (lookup j)
  answer_in (NameWithin k j) (whole x) = none
  answer_in ItsContents (single x) = none
  answer_in ItsContents (names t) = none
  answer_in ItsContents (names_by t) = none
  answer_in ItsContents (whole x) = some x

  -- asked of the subsection with an id
  unfoldable pub answer : ℕ → Query → Table (Content X) → Option X
  answer id q t = some_then (lookup id t) (answer_in q)

-- R5.8: what may be asked over a table of ids: of an id what its kind holds, and of any id its contents as kept. An index has 32 bits, and an id is a byte
pub data Allowed (kind_of : ℕ → Kind) : ℕ → Query → Type 0 where
  an_id : {id : ℕ} → kind_of id ≡ one_name → Allowed kind_of id ItsName
  an_index : {id k : ℕ} → kind_of id ≡ name_map → k < limit32 → Allowed kind_of id (NameOf k)
  two_indices : {id k j : ℕ} → kind_of id ≡ indirect_map → k < limit32 → j < limit32 → Allowed kind_of id (NameWithin k j)
  any_id : {id : ℕ} → id < 256 → Allowed kind_of id ItsContents

-- asked of a payload that begins at an offset
unfoldable pub asked : (ℕ → Kind) → ℕ → Query → ℕ → List ℕ → Judged (Option Part)
asked kind_of id q at bs = map_judged (answer id q) (judge_names kind_of at bs)

-- R5.2 to R5.4: the questions, of which subsection each asks, and what
abbrev pub id_of : Question → ℕ
id_of ModuleName = 0
id_of (FunctionName k) = 1
id_of (LocalName k j) = 2
id_of (LabelName k j) = 3
id_of (TypeName k) = 4
id_of (TableName k) = 5
id_of (MemoryName k) = 6
id_of (GlobalName k) = 7
id_of (ElementName k) = 8
id_of (DataName k) = 9
id_of (FieldName k j) = 10
id_of (TagName k) = 11
id_of (KeptContents id) = id

abbrev pub query_of : Question → Query
query_of ModuleName = ItsName
query_of (FunctionName k) = NameOf k.0
query_of (LocalName k j) = NameWithin k.0 j.0
query_of (LabelName k j) = NameWithin k.0 j.0
query_of (TypeName k) = NameOf k.0
query_of (TableName k) = NameOf k.0
query_of (MemoryName k) = NameOf k.0
query_of (GlobalName k) = NameOf k.0
query_of (ElementName k) = NameOf k.0
query_of (DataName k) = NameOf k.0
query_of (FieldName k j) = NameWithin k.0 j.0
query_of (TagName k) = NameOf k.0
query_of (KeptContents id) = ItsContents

-- a question that a table of ids allows: an edition has no other
abbrev pub AllowedBy : (ℕ → Kind) → Question → Type 0
AllowedBy kind_of q = Allowed kind_of (id_of q) (query_of q)

-- asked over a table of ids, of a payload that begins at an offset of what was lent
unfoldable pub ask_at : (ℕ → Kind) → Question → ℕ → List ℕ → Judged (Option Part)
ask_at kind_of q at bs = asked kind_of (id_of q) (query_of q) at bs

unfoldable pub ask : (ℕ → Kind) → Question → List ℕ → Judged (Option Part)
ask kind_of q bs = ask_at kind_of q 0 bs

-- R5.5, R5.6 and R5.10: the answer as a place; as bytes, which are no bytes for none and for a refusal; and without its offset, as answers are compared
unfoldable pub as_place : Judged (Option Part) → Judged (Option Place)
as_place j = map_judged (map_some place_of) j

unfoldable pub as_bytes : Judged (Option Part) → List ℕ
as_bytes (accepted none) = []
as_bytes (accepted (some p)) = p.bytes
as_bytes (refused n at) = []

-- where its bytes begin; 0 for none and for a refusal
unfoldable pub start_of : Judged (Option Part) → ℕ
start_of (accepted none) = 0
start_of (accepted (some p)) = p.at
start_of (refused n at) = 0

unfoldable pub as_told : Judged (Option Part) → Judged (Option (List ℕ))
as_told j = map_judged (map_some (λ p. p.bytes)) j

-- What an answer says: none, a place, or a refusal's number and offset
abbrev pub answered : Answer → Judged (Option Place)
answered (Ok None) = accepted none
answered (Ok (Some p)) = accepted (some p)
answered (Err r) = refused (number_of r.reason) r.offset.0
