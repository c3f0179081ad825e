-- What the steps of a search promise one another: a short hint, a row's number, a row, what is held after it, and the rows of a table. Assumes nothing.
use Rattle.std.specs.Prelude.{ℕ, ◌≤◌, Bool, false, cond, ◌&&◌, List, [], ◌∷◌, ◌≡◌, leb, ltb, eqb, Ok, Err, Some, None}
use Rattle.std.proofs.Math.Option.{Option, none, some}
use Rattle.format.specs.Reading.{◌>>=◌, ◌>>◌, Outcome, got, Reader, return, here, checked}
use Rattle.format.specs.Numbers.{number}
use Rattle.format.specs.Parts.{Part}
use Rattle.format.specs.Tables.{lookup, rows}
use Rattle.format.specs.Options.{some_then}
use Rattle.format.specs.declared.Reason.TheVariants.{NotAbove}
use Rattle.reading.specs.Cursors.{left, refusal_of, number_outcome, NumberEnd, NumberTold, part_of}
use Rattle.reading.specs.declared.Cursor.{Cursor}
use Rattle.reading.specs.Returned.{NumberRead}
use Rattle.tables.specs.declared.Item.{Item}
use Rattle.tables.specs.declared.Item.TheVariants.{Name, Data, Hint}
use Rattle.tables.specs.Returned.{Held}
use Rattle.tables.specs.Returned.{RowRead}

-- a hint in its fewest bytes: 1 for its size, and its data
abbrev pub is_short_hint : List ℕ → Bool
is_short_hint [] = false
is_short_hint (size ∷ []) = false
is_short_hint (size ∷ byte ∷ bs) = eqb size 1 && ltb byte 2

abbrev pub is_short : Item → List ℕ → Bool
is_short Name bs = false
is_short Data bs = false
is_short Hint bs = is_short_hint bs

-- a row's number, which is at least `least`; refusal 11 gives its offset
unfoldable pub index_from : ℕ → Reader ℕ
index_from least = do
  at ← here
  k ← number
  checked (leb least k) NotAbove at
  return k

pub record IndexReads (least : ℕ) (s : List ℕ) (c : Cursor) (r : NumberRead) : Type 0 where
  pub means : number_outcome s r ≡ index_from least c.at (left s c)
  pub same_part : NumberEnd c.end r
  pub tells : NumberTold s c r

-- a row, as a search passes it: its number, and what its value answers
pub record Passed : Type 0 where
  pub number : ℕ
  pub answer : Option Part

module _ {A : Type 0} (value : Reader A) (answer : A → Option Part) where
  unfoldable pub passing : ℕ → Reader Passed
  passing least = do
    k ← index_from least
    v ← value
    return (record { number = k; answer = answer v })

  -- n rows: what the value at `key` answers
  unfoldable pub sought_rows : (key n : ℕ) → Reader (Option Part)
  sought_rows key n = do
    t ← rows value n 0
    return (some_then (lookup key t) answer)

abbrev pub held_of : List ℕ → Held → Option Part
held_of s None = none
held_of s (Some part) = some (part_of s part)

-- what is held lies in the part with that end
abbrev pub HeldEnd : ℕ → Held → Type 0
HeldEnd end None = Unit {0}
HeldEnd end (Some part) = (part.at ≤ part.end) × (part.end ≤ end)

abbrev pub row_outcome : List ℕ → RowRead → Outcome Passed
row_outcome s (Ok (k, answer, next)) = got (record { number = k; answer = held_of s answer }) next.at (left s next)
row_outcome s (Err r) = refusal_of r

abbrev pub RowEnd : ℕ → RowRead → Type 0
RowEnd end (Ok (k, answer, next)) = HeldEnd end answer × (next.at ≤ end) × (next.end ≡ end)
RowEnd end (Err r) = Unit {0}

pub record RowReads {A : Type 0} (value : Reader A) (answer : A → Option Part) (least : ℕ) (s : List ℕ) (c : Cursor) (r : RowRead) : Type 0 where
  pub means : row_outcome s r ≡ passing value answer least c.at (left s c)
  pub same_part : RowEnd c.end r

-- what is held once a row with number k was passed: the first answer of a row with the key
abbrev pub kept_of : Held → (key k : ℕ) → Held → Held
kept_of None key k answer = cond (eqb key k) answer None
kept_of (Some part) key k answer = Some part
