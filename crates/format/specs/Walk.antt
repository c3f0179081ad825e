-- Rules R2.1 to R2.12, R3.1 to R3.5 and R19.1 of docs/RULES.md.
-- The framing of a module. The first 8 bytes are 00 61 73 6D 01 00 00 00. Then sections to the end: id byte, size number, that many bytes of contents. Assumes nothing.
use Rattle.std.specs.Prelude.{ℕ, zero, suc, Bool, true, false, not, cond, ◌&&◌, ◌||◌, List, [], ◌∷◌, ◌++◌, map, ltb, leb, eqb, length, drop, get_or}
use Rattle.std.proofs.Math.Option.{Option, none, some}
use Rattle.std.proofs.Math.ListN.{get_elem?}
use Rattle.format.specs.Bytes.{ascii, same}
use Rattle.format.specs.Reading.{◌>>=◌, ◌>>◌, got, Reader, return, refuse, checked, Judged, judge, map_judged}
use Rattle.format.specs.Options.{or_else}
use Rattle.format.specs.Parts.{Part, sized, name, remaining, inside}
use Rattle.format.specs.declared.Reason.TheVariants.{NoPreamble, SectionUnknown, SectionOrder, SectionTwice, SectionTooLate}

unfoldable pub preamble : List ℕ
preamble = 0x00 ∷ 0x61 ∷ 0x73 ∷ 0x6D ∷ 0x01 ∷ 0x00 ∷ 0x00 ∷ 0x00 ∷ []

-- R2.1: refusal 1 gives offset 0
unfoldable pub begins : List ℕ → Reader (Unit {0})
begins [] o bs = got tt o bs
begins (x ∷ xs) o [] = refuse NoPreamble 0 o []
begins (x ∷ xs) o (b ∷ bs) = cond (eqb x b) (begins xs (suc o) bs) (refuse NoPreamble 0 o bs)

-- R2.3 to R2.5: the order of sections: type, import, function, table, memory, tag (13), global, export, start, element, data count (12), code, data. Ids run to 13: id 0 is custom, the others occur at most once, in this order
abbrev pub order : List ℕ
order = 1 ∷ 2 ∷ 3 ∷ 4 ∷ 5 ∷ 13 ∷ 6 ∷ 7 ∷ 8 ∷ 9 ∷ 12 ∷ 10 ∷ 11 ∷ []

abbrev pub greatest : List ℕ → ℕ
greatest [] = 0
greatest (x ∷ xs) = let g = greatest xs in cond (leb g x) x g

unfoldable pub greatest_id : ℕ
greatest_id = greatest order

-- where a number stands in a list whose first place is k: 0 if it stands nowhere
abbrev pub place_from : ℕ → List ℕ → ℕ → ℕ
place_from k [] n = 0
place_from k (x ∷ xs) n = cond (eqb n x) k (place_from (suc k) xs n)

-- where an id stands in the order, counted from 1
unfoldable pub rank : ℕ → ℕ
rank id = place_from 1 order id

unfoldable pub is_custom : ℕ → Bool
is_custom id = eqb id 0

unfoldable pub is_code : ℕ → Bool
is_code id = eqb id 10

unfoldable pub is_data : ℕ → Bool
is_data id = eqb id 11

-- R2.6: a custom section's contents begin with a name; the rest is its payload
pub record Custom : Type 0 where
  pub name : Part
  pub payload : Part

unfoldable pub custom : ℕ → Reader (Option Custom)
custom zero = do
  n ← name
  p ← remaining
  return (some (record { name = n; payload = p }))
custom (suc id) = return none

-- R2.7: the bytes of the name are compared exactly
unfoldable pub is_called : List ℕ → Option Custom → Bool
is_called x none = false
is_called x (some c) = same x c.name.bytes

unfoldable pub name_section : List ℕ
name_section = ascii "name"

-- metadata.code.T: the section of a format of code metadata
abbrev pub metadata_prefix : List ℕ
metadata_prefix = ascii "metadata.code."

abbrev pub branch_hint : List ℕ
branch_hint = ascii "branch_hint"

unfoldable pub hint_section : List ℕ
hint_section = metadata_prefix ++ branch_hint

-- K2: "hints in a section called `branchHints`", the older edition's
abbrev pub older_hint_section : List ℕ
older_hint_section = ascii "branchHints"

-- R2.8 to R2.11: the custom sections that the walk tracks, a row each: what they are called, and whether they must stand before code
pub record Tracked : Type 0 where
  pub name : List ℕ
  pub before_code : Bool

abbrev pub tracked : List Tracked
tracked =
    record { name = name_section; before_code = false }
    ∷ record { name = hint_section; before_code = true }
    ∷ record { name = older_hint_section; before_code = true }
    ∷ []

-- the row of `name`; rows are counted from 0
abbrev pub name_row : ℕ
name_row = 0

abbrev pub before_code : ℕ → Bool
before_code row = get_or (map (λ (t : Tracked). t.before_code) tracked) row false

-- the first row of a name that is so, where the first of all is k
abbrev pub first_row : ℕ → List Tracked → (List ℕ → Bool) → Option ℕ
first_row k [] is_so = none
first_row k (t ∷ ts) is_so = cond (is_so t.name) (some k) (first_row (suc k) ts is_so)

-- the row of a section: none for one that is not tracked
abbrev pub row_of : Option Custom → Option ℕ
row_of c = first_row 0 tracked (λ x. is_called x c)

-- a section: its id, the offset of the id byte, the contents, and what they are if it is custom
pub record Section : Type 0 where
  pub id : ℕ
  pub at : ℕ
  pub contents : Part
  pub custom : Option Custom

-- What the rules need to know of the sections before: the rank of the last that is not custom, whether there was code, and of each row whether it was there
pub record Seen : Type 0 where
  pub rank : ℕ
  pub code : Bool
  pub there : ℕ → Bool

unfoldable pub nothing : Seen
nothing = record { rank = 0; code = false; there = λ row. false }

abbrev pub is_row : Option ℕ → ℕ → Bool
is_row none row = false
is_row (some k) row = eqb k row

unfoldable pub seeing : Seen → Section → Seen
seeing seen s = record {
  rank = cond (is_custom s.id) seen.rank (rank s.id);
  code = seen.code || is_code s.id;
  there = λ row. seen.there row || is_row (row_of s.custom) row;
}

-- R2.3, R2.5 and R2.9: what the id decides, before the size is read: no data after `name`. Refusals 5, 6 and 8 give the id byte
unfoldable pub id_rules : Seen → ℕ → ℕ → Reader (Unit {0})
id_rules seen at id = do
  checked (leb id greatest_id) SectionUnknown at
  checked (is_custom id || ltb seen.rank (rank id)) SectionOrder at
  checked (not (is_data id && seen.there name_row)) SectionTooLate at

-- R2.8 and R2.10: what a custom section's row decides, once its name is read. Refusals 7 and 8 give the id byte
unfoldable pub name_rules : Seen → ℕ → Option ℕ → Reader (Unit {0})
name_rules seen at none = return tt
name_rules seen at (some row) = do
  checked (not (seen.there row)) SectionTwice at
  checked (not (before_code row && seen.code)) SectionTooLate at

-- one section, whose id byte stands at an offset
unfoldable pub section : Seen → ℕ → ℕ → Reader Section
section seen at id = do
  id_rules seen at id
  part ← sized
  c ← inside (custom id) part
  name_rules seen at (row_of c)
  return (record { id = id; at = at; contents = part; custom = c })

-- one step from section to section: none at the end
unfoldable pub step : Seen → Reader (Option Section)
step seen o [] = got none o []
step seen o (id ∷ bs) = (section seen o id >>= λ s. return (some s)) (suc o) bs

-- sections up to the end; `most` bounds their number and is never met
unfoldable pub sections : (most : ℕ) → Seen → Reader (List Section)
sections zero seen o bs = got [] o bs
sections (suc most) seen o [] = got [] o []
sections (suc most) seen o (id ∷ bs) = (do
  s ← section seen o id
  more ← sections most (seeing seen s)
  return (s ∷ more)) (suc o) bs

unfoldable pub framing : Reader (List Section)
framing o bs = (do
  begins preamble
  sections (length bs) nothing) o bs

unfoldable pub walk : List ℕ → Judged (List Section)
walk m = judge (framing 0 m)

-- from an offset on to the module's end, with what came before
unfoldable pub walk_from : List ℕ → Seen → ℕ → Judged (List Section)
walk_from m seen o = judge (sections (length (drop o m)) seen o (drop o m))

-- R3.2 to R3.5: the walk answers: the count of sections; the section at a position, counted from 0; the payload of the first custom section of a name
unfoldable pub section_count : List ℕ → Judged ℕ
section_count m = map_judged length (walk m)

unfoldable pub section_at : ℕ → List ℕ → Judged (Option Section)
section_at position m = map_judged (λ ss. get_elem? ss position) (walk m)

unfoldable pub payload_of : List ℕ → Option Custom → Option Part
payload_of x none = none
payload_of x (some c) = cond (same x c.name.bytes) (some c.payload) none

unfoldable pub payload_in : List ℕ → List Section → Option Part
payload_in x [] = none
payload_in x (s ∷ ss) = or_else (payload_of x s.custom) (payload_in x ss)

unfoldable pub custom_payload : List ℕ → List ℕ → Judged (Option Part)
custom_payload x m = map_judged (payload_in x) (walk m)
