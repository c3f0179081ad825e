-- What a table that was accepted has where it is asked. Assumes nothing.
use Rattle.std.specs.Prelude.{ℕ, ◌-◌, ◌≤◌, List, ◌≡◌, Ok, Some, None}
use Rattle.std.proofs.Math.Option.{Option}
use Rattle.format.specs.Reading.{Reader}
use Rattle.format.specs.Parts.{Part, sized}
use Rattle.format.specs.Tables.{Table, lookup, table}
use Rattle.format.specs.Options.{some_then}
use Rattle.format.specs.Returned.{Answer}
use Rattle.reading.specs.Cursors.{Inside}
use Rattle.reading.specs.Standing.{Stands}
use Rattle.reading.specs.declared.Cursor.{Cursor}
use Rattle.tables.specs.Steps.{held_of}
use Rattle.tables.specs.Returned.{Held}

-- what the table at `key` has at `inner`
abbrev pub within : (key inner : ℕ) → Table (Table Part) → Option Part
within key inner t = some_then (lookup key t) (lookup inner)

-- what is held lies in what was lent
abbrev pub HeldInside : List ℕ → Held → Type 0
HeldInside s None = Unit {0}
HeldInside s (Some part) = Inside s part

-- what is held ends behind its beginning, and as an answer is a place
abbrev pub HeldOrdered : Held → Type 0
HeldOrdered None = Unit {0}
HeldOrdered (Some part) = part.at ≤ part.end

abbrev pub answer_of : Held → Answer
answer_of None = (Ok None)
answer_of (Some part) = Ok (Some (record { offset = record { 0 = part.at }; length = part.end - part.at }))

-- what is held is the answer of what stands there
pub record Finds {A : Type 0} (read : Reader A) (answer : A → Option Part) (s : List ℕ) (c : Cursor) (r : Held) : Type 0 where
  pub value : A
  pub next : Cursor
  pub stands : Stands read s c value next
  pub found : held_of s r ≡ answer value
  pub inside : HeldInside s r

-- the cursor behind the table that stands there
pub record Skips (s : List ℕ) (c next : Cursor) : Type 0 where
  pub value : Table Part
  pub stands : Stands (table sized) s c value next
