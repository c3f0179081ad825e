-- Where a subsection of an accepted payload lies, and what its contents answer. Assumes nothing.
use Rattle.std.specs.Prelude.{ℕ, List, ◌≡◌, Some, None}
use Rattle.std.proofs.Math.Option.{Option, none, some}
use Rattle.format.specs.Reading.{accepted, judge, Accepted as AcceptedBy}
use Rattle.format.specs.Parts.{Part}
use Rattle.format.specs.Tables.{Table, lookup}
use Rattle.format.specs.Names.{Kind, contents, judge_names}
use Rattle.format.specs.Questions.{answered, as_place}
use Rattle.format.specs.declared.Query.{Query}
use Rattle.format.specs.Returned.{Answer}
use Rattle.reading.specs.Cursors.{Inside, left, part_of}
use Rattle.reading.specs.declared.Cursor.{Cursor}
use Rattle.names.specs.Contents.{asks_in}
use Rattle.names.specs.Frames.{judge_frames}
use Rattle.tables.specs.Returned.{Held}

-- the part that a place stands for
abbrev pub sub_of : List ℕ → Held → Option Part
sub_of s None = none
sub_of s (Some d) = some (part_of s d)

abbrev pub SubInside : List ℕ → Held → Type 0
SubInside s None = Unit {0}
SubInside s (Some d) = Inside s d

pub record Stands (s : List ℕ) (sub : Held) (found : Option Part) : Type 0 where
  pub is : sub_of s sub ≡ found
  pub inside : SubInside s sub

-- a payload that was accepted, and one whose subsections were, whatever they hold
pub record KnownNames (kind_of : ℕ → Kind) (s : List ℕ) (c : Cursor) : Type 0 where
  pub inside : Inside s c
  pub known : AcceptedBy (judge_names kind_of c.at) (left s c)

pub record KnownFrames (s : List ℕ) (c : Cursor) : Type 0 where
  pub inside : Inside s c
  pub known : AcceptedBy (judge_frames c.at) (left s c)

-- where an id lies in an accepted payload
pub record Finds (s : List ℕ) (at : ℕ) (bs : List ℕ) (id : ℕ) (r : Held) : Type 0 where
  pub stands : (f : Table Part) → judge_frames at bs ≡ accepted f → Stands s r (lookup id f)

-- the contents at a place were accepted
abbrev pub SubKnown : Kind → List ℕ → Held → Type 0
SubKnown kind s None = Unit {0}
SubKnown kind s (Some d) = AcceptedBy (λ bs. judge (contents kind d.at bs)) (left s d)

pub record KnownAt (kind : Kind) (s : List ℕ) (place : Held) : Type 0 where
  pub inside : SubInside s place
  pub known : SubKnown kind s place

-- What the contents at a place answer
pub record AsksAt (kind : Kind) (q : Query) (s : List ℕ) (place : Held) (r : Answer) : Type 0 where
  pub says : answered r ≡ as_place (asks_in kind q (sub_of s place))
