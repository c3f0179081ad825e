-- What stands at a cursor and was accepted before. Assumes nothing.
use Rattle.std.specs.Prelude.{ℕ, List, ◌≡◌}
use Rattle.format.specs.Reading.{got, Reader}
use Rattle.format.specs.Parts.{sized}
use Rattle.reading.specs.Cursors.{Inside, left, part_of}
use Rattle.reading.specs.declared.Cursor.{Cursor}
use Rattle.reading.specs.declared.again.Piece.{Piece}

-- the value that is read there, and the cursor behind it
pub record Stands {A : Type 0} (read : Reader A) (s : List ℕ) (c : Cursor) (v : A) (next : Cursor) : Type 0 where
  pub inside : Inside s c
  pub reads : read c.at (left s c) ≡ got v next.at (left s next)
  pub behind : Inside s next
  pub same_end : next.end ≡ c.end

pub record Known {A : Type 0} (read : Reader A) (s : List ℕ) (c : Cursor) : Type 0 where
  pub value : A
  pub next : Cursor
  pub stands : Stands read s c value next

-- a part, which lies in what was lent
pub record TakesPart (s : List ℕ) (c : Cursor) (r : Piece) : Type 0 where
  pub stands : Stands sized s c (part_of s r.part) r.next
  pub in_part : Inside s r.part
