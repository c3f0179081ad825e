-- Contents that were accepted, what is left of them, and what a write leaves of that. Assumes nothing.
use Rattle.std.specs.Prelude.{ℕ, ◌+◌, ◌≤◌, ◌<◌, List, ◌≡◌, length, Some, None}
use Rattle.std.proofs.Math.Option.{Option, none, some}
use Rattle.format.specs.Reading.{got}
use Rattle.format.specs.Numbers.{limit32}
use Rattle.format.specs.Options.{map_some}
use Rattle.format.specs.Parts.{Part}
use Rattle.format.specs.Tables.{size}
use Rattle.format.specs.Names.{Kind, Content, single, names, names_by, whole, contents}
use Rattle.format.specs.Canonical.{bare, trim, write_content}
use Rattle.reading.specs.Cursors.{Inside, left}
use Rattle.reading.specs.declared.Cursor.{Cursor}
use Rattle.writing.specs.Wrote.{Wrote}
use Rattle.rewrite.specs.declared.contents.Sizes.{Sizes}
use Rattle.rewrite.specs.Returned.{Left}

-- what contents of a kind hold, and that they fit a size number
pub record ContentStands (kind : Kind) (s : List ℕ) (part : Cursor) (c : Content Part) : Type 0 where
  pub inside : Inside s part
  pub next : ℕ
  pub rest : List ℕ
  pub reads : contents kind part.at (left s part) ≡ got c next rest
  pub small : length (left s part) < limit32

pub record KnownContent (kind : Kind) (s : List ℕ) (part : Cursor) : Type 0 where
  pub value : Content Part
  pub stands : ContentStands kind s part value

-- how many entries or groups are counted first, and how long all is
unfoldable pub count_of : Content (List ℕ) → ℕ
count_of (single x) = 0
count_of (names t) = size t
count_of (names_by t) = size t
count_of (whole x) = 0

abbrev pub sizes_of : Content (List ℕ) → Sizes
sizes_of d = record { count = count_of d; length = length (write_content d) }

abbrev pub left_of : Left → Option Sizes
left_of None = none
left_of (Some x) = some x

pub record Trims (kind : Kind) (s : List ℕ) (part : Cursor) (r : Left) : Type 0 where
  pub value : Content Part
  pub stands : ContentStands kind s part value
  pub is : left_of r ≡ map_some sizes_of (trim (bare value))

-- something is left, and it has room behind `at`
pub record FitsContent (kind : Kind) (s : List ℕ) (part : Cursor) (out : List ℕ) (at : ℕ) : Type 0 where
  pub value : Content Part
  pub stands : ContentStands kind s part value
  pub remains : Content (List ℕ)
  pub is : trim (bare value) ≡ some remains
  pub room : at + length (write_content remains) ≤ length out

-- its count is known
pub record Counted (kind : Kind) (s : List ℕ) (part : Cursor) (count : ℕ) : Type 0 where
  pub value : Content Part
  pub stands : ContentStands kind s part value
  pub remains : Content (List ℕ)
  pub is : trim (bare value) ≡ some remains
  pub counted : count ≡ count_of remains

pub record PutsContent (kind : Kind) (s : List ℕ) (part : Cursor) (old new : List ℕ) (at next : ℕ) : Type 0 where
  pub value : Content Part
  pub stands : ContentStands kind s part value
  pub remains : Content (List ℕ)
  pub is : trim (bare value) ≡ some remains
  pub wrote : Wrote old new at next (write_content remains)
