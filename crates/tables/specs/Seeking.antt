-- What a search of a table finds. The whole table is judged, also behind what is found. Assumes nothing.
use Rattle.std.specs.Prelude.{ℕ, ◌≤◌, Bool, true, List, ◌≡◌, Ok, Err, Some, None}
use Rattle.std.proofs.Math.Option.{Option, none, some}
use Rattle.format.specs.Reading.{◌>>=◌, Outcome, got, Reader, return}
use Rattle.format.specs.Parts.{Part, name}
use Rattle.format.specs.Tables.{Table, lookup, table}
use Rattle.format.specs.Metadata.{hint_of, any_item, hint_item}
use Rattle.format.specs.Text.{utf8}
use Rattle.format.specs.declared.Refusal.{Refusal}
use Rattle.format.specs.declared.Reason.TheVariants.{NotText, NotHint}
use Rattle.format.specs.Options.{some_then, is_some}
use Rattle.reading.specs.Cursors.{left, part_of, refusal_of}
use Rattle.reading.specs.declared.Cursor.{Cursor}
use Rattle.tables.specs.declared.Item.{Item}
use Rattle.tables.specs.declared.Item.TheVariants.{Name, Data, Hint}
use Rattle.tables.specs.declared.Wanted.{Wanted}
use Rattle.tables.specs.Returned.{Seek}

-- how an item is read
abbrev pub reader_of : Item → Reader Part
reader_of Name = name
reader_of Data = any_item
reader_of Hint = hint_item

-- what an item's bytes have to be, and the refusal of those that are not; data may be any bytes
abbrev pub is_item : Item → List ℕ → Bool
is_item Name bs = utf8 bs
is_item Data bs = true
is_item Hint bs = is_some (hint_of bs)

abbrev pub not_item : Item → ℕ → ℕ → Refusal
not_item Name size text = record { reason = NotText; offset = record { 0 = text } }
not_item Data size text = record { reason = NotText; offset = record { 0 = text } }
not_item Hint size text = record { reason = NotHint; offset = record { 0 = size } }

-- what a table has at the number that is wanted
abbrev pub wanted_in : {A : Type 0} → Wanted → Table A → Option A
wanted_in wanted t = lookup wanted.0 t

-- what is wanted of a table
unfoldable pub sought : Reader Part → Wanted → Reader (Option Part)
sought value wanted = do
  t ← table value
  return (wanted_in wanted t)

-- what is wanted of the table that is wanted
unfoldable pub sought_within : Reader Part → (wanted inner : Wanted) → Reader (Option Part)
sought_within value wanted inner = do
  t ← table (table value)
  return (some_then (wanted_in wanted t) (wanted_in inner))

-- what a search found
abbrev pub seek_outcome : List ℕ → Seek → Outcome (Option Part)
seek_outcome s (Ok (None, next)) = got none next.at (left s next)
seek_outcome s (Ok (Some part, next)) = got (some (part_of s part)) next.at (left s next)
seek_outcome s (Err r) = refusal_of r

-- the next cursor has the same part around it, and what was found lies in that part
abbrev pub SeekEnd : ℕ → Seek → Type 0
SeekEnd end (Ok (None, next)) = next.end ≡ end
SeekEnd end (Ok (Some part, next)) = (part.at ≤ part.end) × (part.end ≤ end) × (next.end ≡ end)
SeekEnd end (Err r) = Unit {0}

-- the next cursor is not behind that part's end
abbrev pub SeekAhead : ℕ → Seek → Type 0
SeekAhead end (Ok (None, next)) = next.at ≤ end
SeekAhead end (Ok (Some part, next)) = next.at ≤ end
SeekAhead end (Err r) = Unit {0}

pub record Seeks (read : Reader (Option Part)) (s : List ℕ) (c : Cursor) (r : Seek) : Type 0 where
  pub means : seek_outcome s r ≡ read c.at (left s c)
  pub same_part : SeekEnd c.end r
  pub ahead : SeekAhead c.end r
