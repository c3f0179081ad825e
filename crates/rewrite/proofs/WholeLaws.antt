-- All that a cursor has left, copied: bytes, as they stand in what was lent.
use Prim.Native.Nat.{ℕ, ◌+◌, ◌-◌, ◌≤◌}
use mathlib.Core.List.{List}
use native.Mathlib.Omega.{arith}
use borrow.Author.Rules.{rules}
use lib.ListN.{length, take, drop, take-append-drop}
use Rattle.format.specs.Bytes.{Bytes}
use Rattle.format.specs.Laws.Tight.{bytes_before, bytes_after}
use Rattle.reading.specs.Cursors.{left}
use Rattle.reading.specs.declared.Cursor.{Cursor}
use Rattle.writing.specs.Wrote.{Wrote}
use Rattle.writing.proofs.Laws.{wrote_length}
use Rattle.copying.proofs.Laws.{cut_left, part_length}
use Rattle.rewrite.specs.Whole.{FitsWhole, PutsWhole}

-- a part of bytes is bytes
pub bytes_left : (s : List ℕ) (c : Cursor) → Bytes s → Bytes (left s c)
bytes_left s c h =
    let front = bytes_before (take c.end s) (drop c.end s) (rw (take-append-drop c.end s) h) in
    bytes_after (take c.at (take c.end s)) (left s c) (rw (take-append-drop c.at (take c.end s)) front)

module _ {s : List ℕ} {c : Cursor} {old : List ℕ} {at : ℕ} (f : FitsWhole s c old at) where
  pub whole_ordered : c.at ≤ c.end
  whole_ordered = f.inside.ahead

  pub whole_within : c.end ≤ length s
  whole_within = f.inside.within

  pub whole_room : at + length (take (c.end - c.at) (drop c.at s)) ≤ length old
  whole_room = rw (cut_left f.inside) (omega (arith, f.room, part_length f.inside))

  pub whole_copied : {new : List ℕ} {next : ℕ} → Bytes s → Wrote old new at next (take (c.end - c.at) (drop c.at s)) → PutsWhole s c old new at next
  whole_copied h w = record { bytes = bytes_left s c h; wrote = rw (cut_left f.inside) at w }

pub ruleset whole_put = (whole_ordered, whole_within, whole_room, whole_copied, wrote_length, rules)
