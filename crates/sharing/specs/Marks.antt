-- What the walks over marks and blocks are lent, and what each asks of one row.
use Rattle.std.specs.Prelude.{ℕ, ◌+◌, ◌/◌, ◌%◌, ◌≤◌, ◌<◌, Bool, true, cond, not, ◌&&◌, List, ◌≡◌, eqb, length, get_or, drop, Some, None}
use Rattle.std.proofs.Math.Option.{Option, none, some}
use Rattle.format.specs.Bytes.{same}
use Rattle.sharing.specs.Arrays.{marks_from}
use Rattle.sharing.specs.Blocks.{need, are_all_right, gather}
use Rattle.sharing.specs.Table.{blocks, rows_right, find, taken, first_run}
use Rattle.sharing.specs.Returned.{Row}

-- arrays as long as a table's, and a store of whole blocks, no more than they have places
pub record Walkable (users sizes store : List ℕ) : Type 0 where
  pub users_long : length users ≡ 128
  pub sizes_long : length sizes ≡ 128
  pub few : length store ≤ 65536
  pub whole : length store % 512 ≡ 0

-- every needed block is there with a right check
pub record RightRows (users sizes store : List ℕ) : Type 0 where
  pub right : rows_right (marks_from users sizes) (blocks store) ≡ true

-- a block of the store, and where a row stands there, all its blocks are there
pub record FitsRow (users sizes store : List ℕ) (at : ℕ) : Type 0 where
  pub place : at < 128
  pub fits : (get_or users at 0 ≡ 0 → ⊥) → at + need (get_or sizes at 0) ≤ length store / 512

-- as many blocks from one on as a payload of a size takes
pub record SizeFits (store : List ℕ) (first size : ℕ) : Type 0 where
  pub fits : first + need size ≤ length store / 512

-- where there is a row, its blocks are right
pub record RowRight (users sizes store : List ℕ) (at : ℕ) (says : Bool) : Type 0 where
  pub is : says ≡ cond (eqb (get_or users at 0) 0) true (are_all_right (need (get_or sizes at 0)) (drop at (blocks store)))

-- there is a row, and it holds these bytes
pub record RowHolds (users sizes store : List ℕ) (at : ℕ) (bytes : List ℕ) (says : Bool) : Type 0 where
  pub is : says ≡ (not (eqb (get_or users at 0) 0) && same (gather (get_or sizes at 0) (drop at (blocks store))) bytes)

abbrev pub row_of : Row → Option ℕ
row_of (Some b) = some b
row_of None = none

-- what the walks find
pub record FindsRow (users sizes store bytes : List ℕ) (r : Row) : Type 0 where
  pub is : row_of r ≡ find bytes (marks_from users sizes) (blocks store)

pub record FindsRun (users sizes store : List ℕ) (wanted : ℕ) (r : Row) : Type 0 where
  pub is : row_of r ≡ first_run wanted (taken 0 (marks_from users sizes) (blocks store))
