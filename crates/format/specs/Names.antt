-- Rules R4.1 to R4.8 and R19.2 of docs/RULES.md.
-- The name payload: a sequence of subsections, each an id byte, a size number and contents. Ids strictly increase. Assumes nothing.
use Rattle.std.specs.Prelude.{ℕ, zero, suc, List, [], ◌∷◌, leb, length}
use Rattle.std.proofs.Math.Option.{Option, none, some}
use Rattle.format.specs.Reading.{got, Reader, ◌>>=◌, ◌>>◌, return, checked, filling, Judged, judge}
use Rattle.format.specs.Parts.{Part, sized, name, remaining, inside}
use Rattle.format.specs.Tables.{Table, nil, row, lookup, table}
use Rattle.format.specs.declared.Edition.{Edition}
use Rattle.format.specs.declared.Edition.TheVariants.{First, Wider}
use Rattle.format.specs.declared.Reason.TheVariants.{SubsectionOrder}

-- what a subsection can hold: one name, a name map, an indirect name map, or contents that are not looked into
pub data Kind : Type 0 where
  one_name name_map indirect_map kept : Kind

-- R4.3, the first edition: the table of ids; any other is kept
unfoldable pub known : Table Kind
known =
    row 0 one_name
    (row 1 name_map
    (row 2 indirect_map
    (row 4 name_map
    (row 10 indirect_map
    (row 11 name_map nil)))))

abbrev pub or_kept : Option Kind → Kind
or_kept none = kept
or_kept (some k) = k

unfoldable pub known_kind : ℕ → Kind
known_kind id = or_kept (lookup id known)

-- R4.3, the wider edition. K9: "Ids 3 labels (indirect, by function), 5 tables, 6 memories, 7 globals, 8 element segments, 9 data segments (name maps). We want it as a second edition, the caller choosing, the first unchanged"
unfoldable pub wider : Table Kind
wider =
    row 0 one_name
    (row 1 name_map
    (row 2 indirect_map
    (row 3 indirect_map
    (row 4 name_map
    (row 5 name_map
    (row 6 name_map
    (row 7 name_map
    (row 8 name_map
    (row 9 name_map
    (row 10 indirect_map
    (row 11 name_map nil)))))))))))

unfoldable pub wider_kind : ℕ → Kind
wider_kind id = or_kept (lookup id wider)

-- the table of ids of an edition
abbrev pub kind_in : Edition → ℕ → Kind
kind_in First = known_kind
kind_in Wider = wider_kind

-- what was found there, its texts as parts of what was lent or as bare bytes
pub data Content (X : Type 0) : Type 0 where
  single : X → Content X
  names : Table X → Content X
  names_by : Table (Table X) → Content X
  whole : X → Content X

-- R4.4 to R4.8: known contents fill the stated size exactly
unfoldable pub contents : Kind → Reader (Content Part)
contents one_name = filling name >>= λ x. return (single x)
contents name_map = filling (table name) >>= λ t. return (names t)
contents indirect_map = filling (table (table name)) >>= λ t. return (names_by t)
contents kept = remaining >>= λ x. return (whole x)

-- Everything from here on is said over any table of ids
module _ (kind_of : ℕ → Kind) where
  -- R4.1 and R4.2: subsections up to the end, the first id at least `least`; refusal 9 gives the id byte. `most` bounds their number and is never met
  unfoldable pub subsections : (most least : ℕ) → Reader (Table (Content Part))
  subsections zero least o bs = got nil o bs
  subsections (suc most) least o [] = got nil o []
  subsections (suc most) least o (id ∷ bs) = (do
    checked (leb least id) SubsectionOrder o
    part ← sized
    content ← inside (contents (kind_of id)) part
    more ← subsections most (suc id)
    return (row id content more)) (suc o) bs

  unfoldable pub payload : Reader (Table (Content Part))
  payload o bs = subsections (length bs) 0 o bs

  -- a payload that begins at an offset of what was lent
  unfoldable pub judge_names : ℕ → List ℕ → Judged (Table (Content Part))
  judge_names at bs = judge (payload at bs)
