-- The contents of a subsection that one of the payloads has, or both: what is left of them as one, and what a write leaves of that. Assumes nothing.
use Rattle.std.specs.Prelude.{ℕ, ◌+◌, ◌≤◌, ◌<◌, cond, List, ◌≡◌, eqb, length, Some, None}
use Rattle.std.proofs.Math.Option.{Option, none, some}
use Rattle.format.specs.Canonical.{bare, trim, write_content}
use Rattle.format.specs.Joined.{join_content}
use Rattle.format.specs.Names.{Kind, one_name, Content}
use Rattle.format.specs.Numbers.{shortest, limit32}
use Rattle.format.specs.Options.{map_some}
use Rattle.format.specs.Parts.{Part}
use Rattle.reading.specs.declared.Cursor.{Cursor}
use Rattle.tables.specs.Returned.{Held}
use Rattle.writing.specs.Wrote.{Wrote}
use Rattle.rewrite.specs.Contents.{ContentStands, count_of}
use Rattle.joining.specs.declared.contents.Sizes.{Sizes}
use Rattle.joining.specs.Returned.{Left}

-- the contents that are held, if they are
abbrev pub ContentHeld : Kind → List ℕ → Held → Option (Content Part) → Type 0
ContentHeld kind s None x = x ≡ none
ContentHeld kind s (Some part) x = (c : Content Part) × ContentStands kind s part c × (x ≡ some c)

pub record HeldContent (kind : Kind) (s : List ℕ) (held : Held) (x : Option (Content Part)) : Type 0 where
  pub holds : ContentHeld kind s held x

pub record HeldContents (kind : Kind) (s : List ℕ) (first : Held) (o : List ℕ) (second : Held) : Type 0 where
  pub ours : Option (Content Part)
  pub theirs : Option (Content Part)
  pub first_holds : HeldContent kind s first ours
  pub second_holds : HeldContent kind o second theirs

-- what is left of them as one
abbrev pub both_left : (ours theirs : Option (Content Part)) → Option (Content (List ℕ))
both_left none none = none
both_left none (some d) = trim (bare d)
both_left (some c) none = trim (bare c)
both_left (some c) (some d) = trim (join_content (bare c) (bare d))

-- how many entries or groups are counted first, and how long all is
abbrev pub sizes_of : Content (List ℕ) → Sizes
sizes_of d = record { count = count_of d; length = length (write_content d) }

abbrev pub left_of : Left → Option Sizes
left_of None = none
left_of (Some x) = some x

-- a list with its count before it, if it has anything
unfoldable pub list_to_come : (count rows : ℕ) → Left
list_to_come count rows = cond (eqb count 0) None (Some (record { count = count; length = length (shortest count) + rows }))

-- what is left of one name
pub record NameLeft (s : List ℕ) (part : Cursor) (r : Left) : Type 0 where
  pub value : Content Part
  pub stands : ContentStands one_name s part value
  pub is : left_of r ≡ map_some sizes_of (trim (bare value))

-- contents of a kind in both
module _ (kind : Kind) (s : List ℕ) (first : Held) (o : List ℕ) (second : Held) where
  pub record LeftOfBoth (r : Left) : Type 0 where
    pub held : HeldContents kind s first o second
    pub is : left_of r ≡ map_some sizes_of (both_left held.ours held.theirs)

  -- something is left, it fits a size number, and it has room behind `at`
  pub record FitsBoth (out : List ℕ) (at : ℕ) : Type 0 where
    pub held : HeldContents kind s first o second
    pub remains : Content (List ℕ)
    pub is : both_left held.ours held.theirs ≡ some remains
    pub small : length (write_content remains) < limit32
    pub room : at + length (write_content remains) ≤ length out

  -- its count is known
  pub record CountsBoth (count : ℕ) : Type 0 where
    pub held : HeldContents kind s first o second
    pub remains : Content (List ℕ)
    pub is : both_left held.ours held.theirs ≡ some remains
    pub counted : count ≡ count_of remains

  pub record PutsBothContents (old new : List ℕ) (at next : ℕ) : Type 0 where
    pub held : HeldContents kind s first o second
    pub remains : Content (List ℕ)
    pub is : both_left held.ours held.theirs ≡ some remains
    pub wrote : Wrote old new at next (write_content remains)
