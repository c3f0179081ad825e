-- The subsections of two payloads that were accepted, side by side: what comes next, how long all are as one, and what a write leaves of that. Assumes nothing.
use Rattle.std.specs.Prelude.{ℕ, ◌+◌, ◌-◌, ◌≤◌, ◌<◌, true, cond, List, ◌∷◌, ◌≡◌, ltb, length, get_or, Option as Found, Some, None}
use Rattle.std.proofs.Math.Option.{Option, none, some}
use Rattle.format.specs.Canonical.{write_content, write_subsections}
use Rattle.format.specs.Joined.{joined_contents, all_fit, write_joined, JoinWrites}
use Rattle.format.specs.Names.{Kind, Content}
use Rattle.format.specs.Numbers.{shortest, limit32}
use Rattle.format.specs.Pairs.{agreed}
use Rattle.format.specs.Parts.{Part, sized}
use Rattle.format.specs.Tables.{Table}
use Rattle.format.specs.Returned.{JoinWritten}
use Rattle.names.specs.Frames.{behind_id}
use Rattle.reading.specs.Cursors.{Inside}
use Rattle.reading.specs.Standing.{Known, TakesPart}
use Rattle.reading.specs.declared.Cursor.{Cursor}
use Rattle.tables.specs.Returned.{Held}
use Rattle.writing.specs.Wrote.{Wrote}
use Rattle.rewrite.specs.Subsections.{sub_bytes, PayloadStands}
use Rattle.joining.specs.Contents.{HeldContents, both_left}
use Rattle.joining.specs.declared.subsections.NextSubsection.{NextSubsection}
use Rattle.joining.specs.Returned.{Left, Total}

-- a subsection begins here, unless here is the end
pub record KnownFrames (s : List ℕ) (c : Cursor) : Type 0 where
  pub inside : Inside s c
  pub known : c.at < c.end → Known sized s (behind_id c)

-- its id, where its contents lie, and the cursor behind it
pub record FrameStands (s : List ℕ) (c : Cursor) (id : ℕ) (part next : Cursor) : Type 0 where
  pub ahead : c.at < c.end
  pub id_is : id ≡ get_or s c.at 0
  pub contents : TakesPart s (behind_id c) (record { part = part; next = next })

abbrev pub IsFrameHere : List ℕ → Cursor → Found (ℕ × Cursor × Cursor) → Type 0
IsFrameHere s c None = c.end ≤ c.at
IsFrameHere s c (Some (id, part, next)) = FrameStands s c id part next

pub record FrameHere (s : List ℕ) (c : Cursor) (r : Found (ℕ × Cursor × Cursor)) : Type 0 where
  pub here : IsFrameHere s c r

-- the subsection of an id is taken here, or the next id here is above it
abbrev pub IsFrameTaken : List ℕ → Cursor → ℕ → Held → Cursor → Type 0
IsFrameTaken s c id None next = (next ≡ c) × (c.at < c.end → id < get_or s c.at 0)
IsFrameTaken s c id (Some part) next = FrameStands s c id part next

pub record FrameTaken (s : List ℕ) (c : Cursor) (id : ℕ) (held : Held) (next : Cursor) : Type 0 where
  pub taken : IsFrameTaken s c id held next

-- What comes next of two: it ends where both do, and nowhere else; what is taken makes less to come
module _ (s : List ℕ) (c : Cursor) (o : List ℕ) (d : Cursor) where
  pub record TakesSubsection (id : ℕ) (first second : Held) (next after : Cursor) : Type 0 where
    pub first_taken : FrameTaken s c id first next
    pub second_taken : FrameTaken o d id second after
    pub fewer : (next.end - next.at) + (after.end - after.at) < (c.end - c.at) + (d.end - d.at)

  abbrev pub IsSubsectionNext : Found NextSubsection → Type 0
  IsSubsectionNext None = (c.end ≤ c.at) × (d.end ≤ d.at)
  IsSubsectionNext (Some sub) = TakesSubsection sub.id sub.first sub.second sub.next sub.after

  pub record SubsectionNext (r : Found NextSubsection) : Type 0 where
    pub steps : IsSubsectionNext r

-- How long a subsection is with its id and its size; nothing where nothing is left of it
unfoldable pub length_left : Left → Total
length_left None = Some 0
length_left (Some x) = cond (ltb x.length limit32) (Some (1 + (length (shortest x.length) + x.length))) None

unfoldable pub length_of : Option (Content (List ℕ)) → Total
length_of none = Some 0
length_of (some d) = cond (ltb (length (write_content d)) limit32) (Some (1 + (length (shortest (length (write_content d))) + length (write_content d)))) None

-- it is not too large
abbrev pub SmallLeft : Option (Content (List ℕ)) → Type 0
SmallLeft none = Unit {0}
SmallLeft (some d) = length (write_content d) < limit32

-- its id and its size come first
pub record RoomForHead (size : ℕ) (out : List ℕ) (at : ℕ) : Type 0 where
  pub small : size < limit32
  pub room : at + (1 + length (shortest size)) ≤ length out

pub record PutsHead (id size : ℕ) (old new : List ℕ) (at next : ℕ) : Type 0 where
  pub wrote : Wrote old new at next (id ∷ shortest size)

unfoldable pub total_of : Table (Content (List ℕ)) → Total
total_of t = cond (all_fit t) (Some (length (write_subsections t))) None

-- Everything from here on is said over a table of ids
module _ (kind_of : ℕ → Kind) where
  -- one subsection, of one payload or both
  module _ (id : ℕ) (s : List ℕ) (first : Held) (o : List ℕ) (second : Held) where
    pub record KnownSubsection : Type 0 where
      pub held : HeldContents (kind_of id) s first o second

    pub record MeasuresSubsection (r : Total) : Type 0 where
      pub held : HeldContents (kind_of id) s first o second
      pub is : r ≡ length_of (both_left held.ours held.theirs)

    pub record FitsSubsection (out : List ℕ) (at : ℕ) : Type 0 where
      pub held : HeldContents (kind_of id) s first o second
      pub small : SmallLeft (both_left held.ours held.theirs)
      pub room : at + length (sub_bytes id (both_left held.ours held.theirs)) ≤ length out

    pub record PutsSubsection (old new : List ℕ) (at next : ℕ) : Type 0 where
      pub held : HeldContents (kind_of id) s first o second
      pub wrote : Wrote old new at next (sub_bytes id (both_left held.ours held.theirs))

  -- two payloads, or what is to come of them
  pub record Payloads (s : List ℕ) (c : Cursor) (o : List ℕ) (d : Cursor) : Type 0 where
    pub ours : Table (Content Part)
    pub theirs : Table (Content Part)
    pub first_stands : PayloadStands kind_of s c ours
    pub second_stands : PayloadStands kind_of o d theirs

  -- both as one
  module _ (s : List ℕ) (c : Cursor) (o : List ℕ) (d : Cursor) where
    pub record MeasuresJoined (r : Total) : Type 0 where
      pub both : Payloads s c o d
      pub is : r ≡ total_of (joined_contents both.ours both.theirs)

    pub record FitsJoined (out : List ℕ) : Type 0 where
      pub both : Payloads s c o d
      pub fit : all_fit (joined_contents both.ours both.theirs) ≡ true
      pub room : length (write_subsections (joined_contents both.ours both.theirs)) ≤ length out

    pub record PutsJoined (old new : List ℕ) (next : ℕ) : Type 0 where
      pub both : Payloads s c o d
      pub fit : all_fit (joined_contents both.ours both.theirs) ≡ true
      pub wrote : Wrote old new 0 next (write_subsections (joined_contents both.ours both.theirs))

    pub record Joins (old new : List ℕ) (r : JoinWritten) : Type 0 where
      pub both : Payloads s c o d
      pub writes : JoinWrites (agreed (write_joined both.ours both.theirs)) old new r
