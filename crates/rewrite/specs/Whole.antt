-- All that a cursor has left, copied as it is. Assumes nothing.
use Rattle.std.specs.Prelude.{ℕ, ◌+◌, ◌-◌, ◌≤◌, List, length}
use Rattle.format.specs.Bytes.{Bytes}
use Rattle.reading.specs.Cursors.{Inside, left}
use Rattle.reading.specs.declared.Cursor.{Cursor}
use Rattle.writing.specs.Wrote.{Wrote}

-- it has room behind `at`
pub record FitsWhole (s : List ℕ) (c : Cursor) (out : List ℕ) (at : ℕ) : Type 0 where
  pub inside : Inside s c
  pub room : at + (c.end - c.at) ≤ length out

-- it stands there, and its elements are bytes, as those of every slice that is lent
pub record PutsWhole (s : List ℕ) (c : Cursor) (old new : List ℕ) (at next : ℕ) : Type 0 where
  pub bytes : Bytes (left s c)
  pub wrote : Wrote old new at next (left s c)
