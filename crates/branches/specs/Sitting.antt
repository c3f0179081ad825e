-- What the code hands back of a function's hints. Assumes nothing.
use Rattle.std.specs.Prelude.{ℕ, List, ◌≡◌, Ok, Err}
use Rattle.format.specs.Older.{times}
use Rattle.format.specs.Parts.{sized}
use Rattle.format.specs.Reading.{Judged, accepted, refused}
use Rattle.format.specs.Refusals.{number_of}
use Rattle.reading.specs.Cursors.{part_of}
use Rattle.reading.specs.Standing.{Stands}
use Rattle.reading.specs.declared.Cursor.{Cursor}
use Rattle.branches.specs.Bodies.{seat_in}
use Rattle.branches.specs.Branches.{each_hint}
use Rattle.branches.specs.Hints.{Hints, placed_row}
use Rattle.branches.specs.Laws.Hints.{RisingHints}
use Rattle.branches.specs.Seats.{seat_at}
use Rattle.branches.specs.Returned.{Sat}

-- so many hints that were accepted stand there, with rising offsets
pub record Ready (s : List ℕ) (rows : Cursor) (n : ℕ) : Type 0 where
  pub hints : Hints
  pub last : Cursor
  pub stand : Stands (times (placed_row sized) n) s rows hints last
  pub rising : RisingHints 0 hints

-- all are accepted, and the next cursor is behind them; or they are refused
abbrev pub SatSaid : Cursor → Judged (Unit {0}) → Sat → Type 0
SatSaid last judged (Ok next) = (next ≡ last) × (judged ≡ accepted tt)
SatSaid last judged (Err r) = judged ≡ refused (number_of r.reason) r.offset.0

pub record SitsFrom (s : List ℕ) (rows : Cursor) (n base : ℕ) (code : Cursor) (r : Sat) : Type 0 where
  pub ready : Ready s rows n
  pub says : SatSaid ready.last (each_hint (seat_at s base code) ready.hints) r

pub record SitsIn (s : List ℕ) (rows : Cursor) (n : ℕ) (body : Cursor) (r : Sat) : Type 0 where
  pub ready : Ready s rows n
  pub says : SatSaid ready.last (each_hint (seat_in (part_of s body)) ready.hints) r
