-- Subsections that were accepted, one after the other, what is left of them, and what a write leaves of that. Assumes nothing.
use Rattle.std.specs.Prelude.{ℕ, ◌+◌, ◌≤◌, ◌<◌, List, [], ◌∷◌, ◌++◌, ◌≡◌, length, Some, None}
use Rattle.std.proofs.Math.Option.{Option, none, some}
use Rattle.format.specs.Reading.{got, accepted}
use Rattle.format.specs.Numbers.{shortest, limit32}
use Rattle.format.specs.Parts.{Part}
use Rattle.format.specs.Tables.{Table}
use Rattle.format.specs.Names.{Kind, Content, payload}
use Rattle.format.specs.Canonical.{bare, trim, write_part, write_content, rewrite_names}
use Rattle.format.specs.Outputs.{Writes}
use Rattle.format.specs.Returned.{Written}
use Rattle.names.specs.declared.frames.Framed.{Framed}
use Rattle.reading.specs.Cursors.{Inside, left}
use Rattle.reading.specs.declared.Cursor.{Cursor}
use Rattle.writing.specs.Wrote.{Wrote}
use Rattle.rewrite.specs.Contents.{ContentStands, Trims}
use Rattle.rewrite.specs.declared.contents.Sizes.{Sizes}
use Rattle.rewrite.specs.Returned.{Left}
use Rattle.rewrite.specs.Returned.{Changed}

-- what is left fits a size number
abbrev pub SmallLeft : Left → Type 0
SmallLeft None = Unit {0}
SmallLeft (Some x) = x.length < limit32

-- how long it is with id and size
abbrev pub length_left : Option Sizes → ℕ
length_left none = 0
length_left (some x) = 1 + (length (shortest x.length) + x.length)

-- its bytes
abbrev pub sub_bytes : ℕ → Option (Content (List ℕ)) → List ℕ
sub_bytes id none = []
sub_bytes id (some d) = id ∷ write_part (write_content d)

-- Everything from here on is said over a table of ids
module _ (kind_of : ℕ → Kind) where
  -- what is left of one subsection
  pub record TrimsSubsection (id : ℕ) (s : List ℕ) (part : Cursor) (x : Left) : Type 0 where
    pub trims : Trims (kind_of id) s part x

  -- it has room behind `at`; and it is written there
  pub record FitsSubsection (id : ℕ) (s : List ℕ) (part : Cursor) (out : List ℕ) (at : ℕ) : Type 0 where
    pub value : Content Part
    pub stands : ContentStands (kind_of id) s part value
    pub room : at + length (sub_bytes id (trim (bare value))) ≤ length out

  pub record PutsSubsection (id : ℕ) (s : List ℕ) (part : Cursor) (old new : List ℕ) (at next : ℕ) : Type 0 where
    pub value : Content Part
    pub stands : ContentStands (kind_of id) s part value
    pub wrote : Wrote old new at next (sub_bytes id (trim (bare value)))

  -- a payload, or what is to come of it
  pub record PayloadStands (s : List ℕ) (c : Cursor) (t : Table (Content Part)) : Type 0 where
    pub inside : Inside s c
    pub next : ℕ
    pub rest : List ℕ
    pub reads : payload kind_of c.at (left s c) ≡ got t next rest

  pub record KnownPayload (s : List ℕ) (c : Cursor) : Type 0 where
    pub value : Table (Content Part)
    pub stands : PayloadStands s c value

  pub record MeasuresPayload (s : List ℕ) (c : Cursor) (r : ℕ) : Type 0 where
    pub value : Table (Content Part)
    pub stands : PayloadStands s c value
    pub long : r ≡ length (rewrite_names value)

  -- as much as `r` is enough; and where there is less room than that, it is just what is needed
  pub record NeedsRoom (s : List ℕ) (c : Cursor) (room r : ℕ) : Type 0 where
    pub value : Table (Content Part)
    pub stands : PayloadStands s c value
    pub enough : length (rewrite_names value) ≤ r
    pub needed : room < r → r ≡ length (rewrite_names value)

  -- what is written are the bytes before `at` as they are, what is left of the subsection there, and what is left of those behind it
  pub record ChangedAt (s : List ℕ) (c : Cursor) (at : ℕ) (frame : Framed) (x : Left) : Type 0 where
    pub value : Table (Content Part)
    pub stands : PayloadStands s c value
    pub before : Inside s (record { at = c.at; end = at })
    pub changed : TrimsSubsection frame.id s frame.part x
    pub more : Table (Content Part)
    pub behind : PayloadStands s frame.next more
    pub is : rewrite_names value ≡ left s (record { at = c.at; end = at }) ++ (sub_bytes frame.id (trim (bare changed.trims.value)) ++ rewrite_names more)

  -- it is what it is
  pub record UnchangedHere (s : List ℕ) (c : Cursor) : Type 0 where
    pub value : Table (Content Part)
    pub stands : PayloadStands s c value
    pub is : rewrite_names value ≡ left s c

  abbrev pub FindsWhatChanged : List ℕ → Cursor → Changed → Type 0
  FindsWhatChanged s c None = UnchangedHere s c
  FindsWhatChanged s c (Some (at, frame, x)) = ChangedAt s c at frame x

  pub record FindsChanged (s : List ℕ) (c : Cursor) (r : Changed) : Type 0 where
    pub finds : FindsWhatChanged s c r

  pub record FitsPayload (s : List ℕ) (c : Cursor) (out : List ℕ) (at : ℕ) : Type 0 where
    pub value : Table (Content Part)
    pub stands : PayloadStands s c value
    pub room : at + length (rewrite_names value) ≤ length out

  pub record PutsPayload (s : List ℕ) (c : Cursor) (old new : List ℕ) (at next : ℕ) : Type 0 where
    pub value : Table (Content Part)
    pub stands : PayloadStands s c value
    pub wrote : Wrote old new at next (rewrite_names value)

  pub record RewritesNames (s : List ℕ) (c : Cursor) (old new : List ℕ) (r : Written) : Type 0 where
    pub value : Table (Content Part)
    pub stands : PayloadStands s c value
    pub writes : Writes (accepted (rewrite_names value)) old new r
