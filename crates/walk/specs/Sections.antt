-- Rules R2.1 to R2.10 of docs/RULES.md.
-- What the walk's types mean. Assumes nothing.
use Rattle.std.specs.Prelude.{ℕ, zero, suc, ◌/◌, ◌%◌, ◌<◌, Bool, cond, ◌||◌, List, ◌≡◌, eqb, length, Result, Ok, Err, Some, None}
use Rattle.std.proofs.Math.Option.{Option, none, some}
use Rattle.format.specs.Bytes.{same}
use Rattle.format.specs.Refusals.{number_of}
use Rattle.format.specs.Reading.{got, stop, Reader}
use Rattle.format.specs.Parts.{go_on}
use Rattle.format.specs.Walk.{is_custom, is_code, rank, Custom as CustomSection, custom, tracked, first_row, row_of, Section as AnySection, Seen as SeenBefore, is_row, id_rules, name_rules}
use Rattle.format.specs.declared.Refusal.{Refusal}
use Rattle.reading.specs.Cursors.{Inside, left, part_of, refusal_of}
use Rattle.reading.specs.declared.Cursor.{Cursor}
use Rattle.walk.specs.Returned.{Custom}
use Rattle.walk.specs.declared.step.Section.{Section}
use Rattle.walk.specs.Returned.{Called}
use Rattle.walk.specs.declared.rules.Seen.{Seen}
use Rattle.walk.specs.Returned.{Ruling}

-- the bits of a number, from the lowest on
abbrev pub bit : ℕ → ℕ → Bool
bit n zero = eqb (n % 2) 1
bit n (suc k) = bit (n / 2) k

abbrev pub seen_of : Seen → SeenBefore
seen_of s = record { rank = s.rank; code = s.code; there = bit s.there }

-- a ruling says what rules say that are checked with the id byte at an offset
abbrev pub ruling : Ruling → ℕ → Reader (Unit {0})
ruling (Ok _) at o bs = got tt o bs
ruling (Err why) at o bs = stop (number_of why) at

-- what the id decides
pub record IdRuled (seen : Seen) (id : ℕ) (v : Ruling) : Type 0 where
  pub says : (at o : ℕ) (bs : List ℕ) → ruling v at o bs ≡ id_rules (seen_of seen) at id o bs

-- what a section is called is a row, or none of them
abbrev pub row_called : Called → Option ℕ
row_called (Some row) = some row
row_called None = none

abbrev pub InTable : Called → Type 0
InTable (Some row) = row < length tracked
InTable None = Unit {0}

pub record Calls (name : List ℕ) (called : Called) : Type 0 where
  pub row_is : first_row 0 tracked (λ x. same x name) ≡ row_called called

-- what a custom section's row decides
pub record NameRuled (seen : Seen) (called : Called) (v : Ruling) : Type 0 where
  pub says : (at o : ℕ) (bs : List ℕ) → ruling v at o bs ≡ name_rules (seen_of seen) at (row_called called) o bs

-- what the rules know behind a section
pub record ThereAfter (before : ℕ) (called : Called) (next : ℕ) : Type 0 where
  pub says : (row : ℕ) → bit next row ≡ (bit before row || is_row (row_called called) row)

pub record Sees (seen : Seen) (id : ℕ) (called : Called) (next : Seen) : Type 0 where
  pub rank_is : next.rank ≡ cond (is_custom id) seen.rank (rank id)
  pub code_is : next.code ≡ (seen.code || is_code id)
  pub there_is : ThereAfter seen.there called next.there

-- What a section of the code is
abbrev pub custom_of : List ℕ → Custom → Option CustomSection
custom_of m None = none
custom_of m (Some (name, payload)) = some (record { name = part_of m name; payload = part_of m payload })

abbrev pub section_of : List ℕ → Section → AnySection
section_of m s = record { id = s.id; at = s.at.0; contents = part_of m s.contents; custom = custom_of m s.custom }

-- what reading a custom section's contents found; the reading goes on behind them
abbrev pub custom_outcome : List ℕ → Result Custom Refusal → Reader (Option CustomSection)
custom_outcome m (Ok c) o bs = got (custom_of m c) o bs
custom_outcome m (Err r) o bs = refusal_of r

-- a name and a payload lie in what was lent
abbrev pub CustomInside : List ℕ → Custom → Type 0
CustomInside m None = Unit {0}
CustomInside m (Some (name, payload)) = Inside m name × Inside m payload

-- a section lies in what was lent, its contents behind its id byte
pub record SectionInside (m : List ℕ) (s : Section) : Type 0 where
  pub behind : s.at.0 < s.contents.at
  pub contents : Inside m s.contents
  pub custom : CustomInside m s.custom

pub record CustomReads (m : List ℕ) (id : ℕ) (contents : Cursor) (r : Result Custom Refusal) : Type 0 where
  pub means : (o : ℕ) (bs : List ℕ) → custom_outcome m r o bs ≡ go_on (custom id contents.at (left m contents)) o bs
  pub within : (c : Custom) → r ≡ Ok c → CustomInside m c

pub record CallsCustom (m : List ℕ) (c : Custom) (called : Called) : Type 0 where
  pub row_is : row_of (custom_of m c) ≡ row_called called
