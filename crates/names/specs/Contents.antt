-- What a subsection's contents answer once they are judged. Assumes nothing.
use Rattle.std.specs.Prelude.{ℕ, ◌-◌, Bool, true, false, cond, List, ◌≡◌, ltb, Ok, Err, Some}
use Rattle.std.proofs.Math.Option.{Option, none, some}
use Rattle.format.specs.Reading.{Judged, accepted, judge, map_judged, verdict}
use Rattle.format.specs.Parts.{Part}
use Rattle.format.specs.Names.{Kind as AnyKind, one_name, name_map, indirect_map, kept, contents}
use Rattle.format.specs.Questions.{answer_in, answered, as_place}
use Rattle.format.specs.declared.Query.{Query}
use Rattle.format.specs.Returned.{Answer}
use Rattle.format.specs.declared.Reason.TheVariants.{LeftOver}
use Rattle.reading.specs.Cursors.{left, part_of}
use Rattle.reading.specs.declared.Cursor.{Cursor}
use Rattle.names.specs.declared.kinds.Kind.{Kind}
use Rattle.names.specs.declared.kinds.Kind.TheVariants.{OneName, NameMap, IndirectMap, Kept}

-- the kind that the code means
abbrev pub kind_meant : Kind → AnyKind
kind_meant OneName = one_name
kind_meant NameMap = name_map
kind_meant IndirectMap = indirect_map
kind_meant Kept = kept

-- a map of names is nested where it is an indirect one
abbrev pub map_kind : Bool → AnyKind
map_kind true = indirect_map
map_kind false = name_map

abbrev pub is_nested : Kind → Bool
is_nested OneName = false
is_nested NameMap = false
is_nested IndirectMap = true
is_nested Kept = false

-- The contents over a part, judged and asked; where there is no part, the answer is none
abbrev pub asks_of : AnyKind → Query → Part → Judged (Option Part)
asks_of kind q p = map_judged (answer_in q) (judge (contents kind p.at p.bytes))

abbrev pub asks_in : AnyKind → Query → Option Part → Judged (Option Part)
asks_in kind q none = accepted none
asks_in kind q (some p) = asks_of kind q p

pub record Asks (kind : AnyKind) (q : Query) (s : List ℕ) (part : Cursor) (r : Answer) : Type 0 where
  pub says : answered r ≡ as_place (asks_of kind q (part_of s part))

-- accepted or refused, whatever is answered
pub record Rules (kind : AnyKind) (s : List ℕ) (part : Cursor) (r : Answer) : Type 0 where
  pub says : verdict (answered r) ≡ verdict (judge (contents kind part.at (left s part)))

-- The answer where nothing may be left over; refusal 10 gives the first byte that is
abbrev pub place_at : Cursor → Answer
place_at part = Ok (Some (record { offset = record { 0 = part.at }; length = part.end - part.at }))

abbrev pub filled_by : Cursor → Answer → Answer
filled_by next answer = cond (ltb next.at next.end) (Err (record { reason = LeftOver; offset = record { 0 = next.at } })) answer
