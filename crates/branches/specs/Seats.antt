-- What the code hands back of a place in a body. Assumes nothing.
use Rattle.std.specs.Prelude.{ℕ, ◌+◌, ◌≤◌, cond, List, ◌≡◌}
use Rattle.reading.specs.Cursors.{Inside, left}
use Rattle.reading.specs.declared.Cursor.{Cursor}
use Rattle.branches.specs.Bodies.{Seat, on_branch_lem, not_readable, elsewhere, is_branch, seat_from}
use Rattle.branches.specs.declared.seats.Reach.{Reach}
use Rattle.branches.specs.declared.seats.Reach.TheVariants.{At, Unreadable, Elsewhere}

-- the seat at an offset, from a cursor on
abbrev pub seat_at : List ℕ → (base : ℕ) → Cursor → (offset : ℕ) → Seat
seat_at s base c offset = seat_from (base + offset) c.at (left s c)

abbrev pub reach_seat : Reach → Seat
reach_seat (At there) = on_branch_lem
reach_seat Unreadable = not_readable
reach_seat Elsewhere = elsewhere

-- at the place itself
abbrev pub arrived_at : Cursor → (op : ℕ) → Reach
arrived_at here op = cond (is_branch op) (At here) Elsewhere

-- what stands further on is the same from there
pub record Onward (s : List ℕ) (code : Cursor) (base offset : ℕ) (there : Cursor) : Type 0 where
  pub inside : Inside s there
  pub behind_base : base ≤ there.at
  pub same : (further : ℕ) → offset ≤ further → seat_at s base code further ≡ seat_at s base there further

abbrev pub ReachOn : List ℕ → Cursor → (base offset : ℕ) → Reach → Type 0
ReachOn s code base offset (At there) = Onward s code base offset there
ReachOn s code base offset Unreadable = Unit {0}
ReachOn s code base offset Elsewhere = Unit {0}

pub record ReachesTo (s : List ℕ) (code : Cursor) (base offset : ℕ) (r : Reach) : Type 0 where
  pub says : reach_seat r ≡ seat_at s base code offset
  pub goes_on : ReachOn s code base offset r
