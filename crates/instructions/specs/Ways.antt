-- What the code hands back of a piece of a body: where the reading goes on, or that it cannot be read. Assumes nothing.
use Rattle.std.specs.Prelude.{ℕ, ◌+◌, ◌-◌, ◌≤◌, cond, List, ◌≡◌, leb, Some, None}
use Rattle.format.specs.Reading.{Outcome, got, stop, Reader}
use Rattle.reading.specs.Cursors.{left}
use Rattle.reading.specs.declared.Cursor.{Cursor}
use Rattle.instructions.specs.Returned.{Way}

-- the offset behind what was read and the bytes left there; why something cannot be read does not count
pub data Passing : Type 0 where
  behind : ℕ → List ℕ → Passing
  unreadable : Passing

abbrev pub passing : {A : Type 0} → Outcome A → Passing
passing (got v o bs) = behind o bs
passing (stop n at) = unreadable

abbrev pub way_of : List ℕ → Way → Passing
way_of s (Some next) = behind next.at (left s next)
way_of s None = unreadable

-- the next cursor is not before this one, and has the same part around it
abbrev pub WayEnd : Cursor → Way → Type 0
WayEnd c (Some next) = (c.at ≤ next.at) × (next.at ≤ c.end) × (next.end ≡ c.end)
WayEnd c None = Unit {0}

pub record Goes {A : Type 0} (read : Reader A) (s : List ℕ) (c : Cursor) (r : Way) : Type 0 where
  pub means : way_of s r ≡ passing (read c.at (left s c))
  pub same_part : WayEnd c r

-- so many bytes further
abbrev pub bytes_on : Cursor → ℕ → Way
bytes_on c n = cond (leb n (c.end - c.at)) (Some (record { at = c.at + n; end = c.end })) None
