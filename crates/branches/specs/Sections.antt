-- What the code hands back of a section's contents. Assumes nothing.
use Rattle.std.specs.Prelude.{ℕ, List, ◌≡◌, Option as Held, Some, None}
use Rattle.std.proofs.Math.Option.{Option, none, some}
use Rattle.format.specs.Parts.{Part}
use Rattle.format.specs.Reading.{accepted}
use Rattle.format.specs.Walk.{Section, walk}
use Rattle.reading.specs.Cursors.{Inside, part_of}
use Rattle.reading.specs.declared.Cursor.{Cursor}
use Rattle.branches.specs.Branches.{contents_of}

-- the walk accepts the module
pub record Walked (m : List ℕ) : Type 0 where
  pub sections : List Section
  pub are : walk m ≡ accepted sections

abbrev pub spot_of : List ℕ → Held Cursor → Option Part
spot_of m None = none
spot_of m (Some c) = some (part_of m c)

abbrev pub SpotInside : List ℕ → Held Cursor → Type 0
SpotInside m None = Unit {0}
SpotInside m (Some c) = Inside m c

pub record Finds (m : List ℕ) (id : ℕ) (r : Held Cursor) : Type 0 where
  pub says : accepted (spot_of m r) ≡ contents_of id m
  pub inside : SpotInside m r
