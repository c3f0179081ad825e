-- What the code hands back of the import list. Assumes nothing.
use Rattle.std.specs.Prelude.{ℕ, ◌≤◌, List, ◌≡◌, Ok, Err}
use Rattle.format.specs.Reading.{Outcome, got, Reader, Judged, accepted, refused, judge}
use Rattle.format.specs.Refusals.{number_of}
use Rattle.format.specs.declared.Reason.{Reason}
use Rattle.format.specs.declared.Refusal.{Refusal}
use Rattle.reading.specs.Cursors.{left, refusal_of}
use Rattle.reading.specs.declared.Cursor.{Cursor}
use Rattle.branches.specs.Imports.{imports}
use Rattle.branches.specs.Returned.{Read, Counted}

abbrev pub refusal_with : Reason → (at : ℕ) → Refusal
refusal_with reason at = record { reason = reason; offset = record { 0 = at } }

-- a value, and what is left behind it
abbrev pub read_outcome : List ℕ → Read → Outcome ℕ
read_outcome s (Ok (v, next)) = got v next.at (left s next)
read_outcome s (Err r) = refusal_of r

-- the next cursor has the same part around it, and is not behind its end
abbrev pub ReadEnd : ℕ → Read → Type 0
ReadEnd end (Ok (v, next)) = (next.at ≤ end) × (next.end ≡ end)
ReadEnd end (Err r) = Unit {0}

pub record Reads (read : Reader ℕ) (s : List ℕ) (c : Cursor) (r : Read) : Type 0 where
  pub means : read_outcome s r ≡ read c.at (left s c)
  pub same_part : ReadEnd c.end r

-- how many functions are imported, by a list that fills its part
abbrev pub counted : Counted → Judged ℕ
counted (Ok n) = accepted n
counted (Err r) = refused (number_of r.reason) r.offset.0

pub record Counts (s : List ℕ) (c : Cursor) (r : Counted) : Type 0 where
  pub says : counted r ≡ judge (imports c.at (left s c))
