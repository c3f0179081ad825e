-- What reading and asking the older edition of hints finds on its way. Assumes nothing.
use Rattle.std.specs.Prelude.{ℕ, ◌≤◌, Bool, true, false, cond, List, ◌≡◌, eqb, ltb, Option as Held, Ok, Err, Some, None}
use Rattle.std.proofs.Math.Option.{Option, none, some}
use Rattle.format.specs.Reading.{◌>>=◌, ◌>>◌, Outcome, got, Reader, return}
use Rattle.format.specs.Numbers.{number}
use Rattle.format.specs.Older.{OlderHint, OlderEntry, zero_byte, kind_numbered, first_at}
use Rattle.format.specs.declared.Hint.{Hint}
use Rattle.format.specs.Returned.{HintAnswer}
use Rattle.format.specs.declared.Reason.TheVariants.{LeftOver}
use Rattle.reading.specs.Cursors.{left, refusal_of}
use Rattle.reading.specs.declared.Cursor.{Cursor}
use Rattle.reading.specs.Returned.{NumberRead}
use Rattle.older.specs.Returned.{Seek}

-- what is judged alone answers nothing
abbrev pub nothing : {A : Type 0} → A → Option Hint
nothing v = none

-- what one hint, and what one entry, answers
abbrev pub at_offset : ℕ → OlderHint → Option Hint
at_offset wanted h = cond (eqb wanted h.offset) (some h.kind) none

abbrev pub first_where : Bool → ℕ → List OlderHint → Option Hint
first_where true wanted = first_at wanted
first_where false wanted = nothing

abbrev pub in_function : (function offset : ℕ) → OlderEntry → Option Hint
in_function function offset e = first_where (eqb function e.function) offset e.hints

-- what was read, asked
unfoldable pub asked : {A : Type 0} → (A → Option Hint) → Reader A → Reader (Option Hint)
asked ask read = do
  v ← read
  return (ask v)

-- an entry's function, and the zero byte behind it
unfoldable pub opening : Reader ℕ
opening = do
  function ← number
  zero_byte
  return function

-- what is held: nothing, or one of the two hints
abbrev pub held_of : Held Hint → Option Hint
held_of None = none
held_of (Some h) = some h

-- a kind where its offset is the one that is wanted
abbrev pub held_as : (wanted offset kind : ℕ) → Held Hint
held_as wanted offset kind = cond (eqb wanted offset) (Some (kind_numbered kind)) None

-- what was read as a number, which stands for a value
abbrev pub value_outcome : {A : Type 0} → (ℕ → A) → List ℕ → NumberRead → Outcome A
value_outcome value s (Ok (v, next, shortest)) = got (value v) next.at (left s next)
value_outcome value s (Err r) = refusal_of r

-- the next cursor has the same part around it, and is not behind its end
abbrev pub ValueEnd : ℕ → NumberRead → Type 0
ValueEnd end (Ok (v, next, shortest)) = (next.at ≤ end) × (next.end ≡ end)
ValueEnd end (Err r) = Unit {0}

pub record Reads {A : Type 0} (value : ℕ → A) (read : Reader A) (s : List ℕ) (c : Cursor) (r : NumberRead) : Type 0 where
  pub means : value_outcome value s r ≡ read c.at (left s c)
  pub same_part : ValueEnd c.end r

-- what was found
abbrev pub seek_outcome : List ℕ → Seek → Outcome (Option Hint)
seek_outcome s (Ok (held, next)) = got (held_of held) next.at (left s next)
seek_outcome s (Err r) = refusal_of r

abbrev pub SeekEnd : ℕ → Seek → Type 0
SeekEnd end (Ok (held, next)) = (next.at ≤ end) × (next.end ≡ end)
SeekEnd end (Err r) = Unit {0}

pub record Seeks (read : Reader (Option Hint)) (s : List ℕ) (c : Cursor) (r : Seek) : Type 0 where
  pub means : seek_outcome s r ≡ read c.at (left s c)
  pub same_part : SeekEnd c.end r

-- bytes behind the entries are left over
abbrev pub filled_with : Held Hint → Cursor → HintAnswer
filled_with held next = cond (ltb next.at next.end) (Err (record { reason = LeftOver; offset = record { 0 = next.at } })) (Ok held)
