-- What a cursor has left to read, and what its readings mean. Assumes nothing.
use Rattle.std.specs.Prelude.{ℕ, ◌≤◌, ◌<◌, List, ◌≡◌, length, get_or, Ok, Err}
use Rattle.std.proofs.Math.Seq.{slice}
use Rattle.format.specs.Refusals.{number_of}
use Rattle.format.specs.Reading.{Outcome, got, stop, Reader}
use Rattle.format.specs.Numbers.{number, shortest}
use Rattle.format.specs.Parts.{Part}
use Rattle.format.specs.Canonical.{write_part}
use Rattle.format.specs.Telling.{as_few}
use Rattle.format.specs.declared.Refusal.{Refusal}
use Rattle.reading.specs.declared.Cursor.{Cursor}
use Rattle.reading.specs.Returned.{NumberRead}
use Rattle.reading.specs.Returned.{PartRead}

-- the cursor lies in what was lent
pub record Inside (s : List ℕ) (c : Cursor) : Type 0 where
  pub ahead : c.at ≤ c.end
  pub within : c.end ≤ length s

-- the cursor over all that was lent
abbrev pub over_all : List ℕ → Cursor
over_all s = record { at = 0; end = length s }

-- the bytes that it has left
abbrev pub left : List ℕ → Cursor → List ℕ
left s c = slice c.at c.end s

-- the part that it stands for
abbrev pub part_of : List ℕ → Cursor → Part
part_of s c = record { at = c.at; bytes = left s c }

-- a refusal, by its number and offset
abbrev pub refusal_of : {A : Type 0} → Refusal → Outcome A
refusal_of r = stop (number_of r.reason) r.offset.0

-- a number's first byte, where there is one, says that another follows
pub record Followed (s : List ℕ) (c : Cursor) : Type 0 where
  pub first : c.at < c.end → 128 ≤ get_or s c.at 0

-- what reading a number found
abbrev pub number_outcome : List ℕ → NumberRead → Outcome ℕ
number_outcome s (Ok (v, next, shortest)) = got v next.at (left s next)
number_outcome s (Err r) = refusal_of r

-- the next cursor has the same part around it
abbrev pub NumberEnd : ℕ → NumberRead → Type 0
NumberEnd end (Ok (v, next, shortest)) = next.end ≡ end
NumberEnd end (Err r) = Unit {0}

-- K10: it says whether the number took its fewest bytes
abbrev pub NumberTold : List ℕ → Cursor → NumberRead → Type 0
NumberTold s c (Ok (v, next, told)) = told ≡ as_few (shortest v) (left s next) (left s c)
NumberTold s c (Err r) = Unit {0}

pub record NumberReads (s : List ℕ) (c : Cursor) (r : NumberRead) : Type 0 where
  pub means : number_outcome s r ≡ number c.at (left s c)
  pub same_part : NumberEnd c.end r
  pub tells : NumberTold s c r

-- what reading a sized part or a name found
abbrev pub part_outcome : List ℕ → PartRead → Outcome Part
part_outcome s (Ok (part, next, shortest)) = got (part_of s part) next.at (left s next)
part_outcome s (Err r) = refusal_of r

-- the part ends where the next cursor begins, which has the same part around it
abbrev pub PartEnd : ℕ → PartRead → Type 0
PartEnd end (Ok (part, next, shortest)) = (part.end ≡ next.at) × (next.end ≡ end)
PartEnd end (Err r) = Unit {0}

-- K10: handed on from its length's number: whether it took as few bytes as a part can
abbrev pub PartTold : List ℕ → Cursor → PartRead → Type 0
PartTold s c (Ok (part, next, told)) = told ≡ as_few (write_part (left s part)) (left s next) (left s c)
PartTold s c (Err r) = Unit {0}

pub record PartReads (read : Reader Part) (s : List ℕ) (c : Cursor) (r : PartRead) : Type 0 where
  pub means : part_outcome s r ≡ read c.at (left s c)
  pub same_part : PartEnd c.end r
  pub tells : PartTold s c r
