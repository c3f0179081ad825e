-- What the code hands back of the functions of a hint payload. Assumes nothing.
use Rattle.std.specs.Prelude.{ℕ, suc, List, ◌≡◌, Result, Ok, Err}
use Rattle.format.specs.Numbers.{number}
use Rattle.format.specs.Older.{times}
use Rattle.format.specs.Parts.{Part, sized}
use Rattle.format.specs.Reading.{accepted, refused}
use Rattle.format.specs.Refusals.{number_of}
use Rattle.format.specs.declared.Refusal.{Refusal}
use Rattle.format.specs.Verdicts.{verdict_of}
use Rattle.format.specs.Returned.{Verdict}
use Rattle.reading.specs.Standing.{Stands}
use Rattle.reading.specs.declared.Cursor.{Cursor}
use Rattle.branches.specs.Branches.{one_function, each_function}
use Rattle.branches.specs.Hints.{Placed, Hints, placed_row, all_hints}
use Rattle.branches.specs.Laws.Hints.{RisingHints, RisingFunctions}
use Rattle.branches.specs.Lists.{Kept, SameFrom}
use Rattle.branches.specs.declared.bodies.Bodies.{Bodies}

-- a function that was accepted: its index, how many hints, and these
pub record Opened (s : List ℕ) (next : Cursor) : Type 0 where
  pub function : ℕ
  pub n : ℕ
  pub hints : Hints
  pub middle : Cursor
  pub rows : Cursor
  pub behind : Cursor
  pub index : Stands number s next function middle
  pub count : Stands number s middle n rows
  pub stand : Stands (times (placed_row sized) n) s rows hints behind
  pub rising : RisingHints 0 hints

abbrev pub placed : {s : List ℕ} (next : Cursor) → Opened s next → Placed Hints
placed next o = record { at = next.at; number = o.function; value = o.hints }

-- the bodies behind a function's own serve all functions behind it
pub record Onward (s : List ℕ) (bodies : Bodies) (parts : List Part) (function : ℕ) (left : Bodies) : Type 0 where
  pub kept : Kept s left
  pub same : SameFrom (suc function) bodies.first parts left.first kept.parts

abbrev pub TurnedAs : (s : List ℕ) (next : Cursor) (bodies : Bodies) → Opened s next → List Part → Result (Cursor × Bodies) Refusal → Type 0
TurnedAs s next bodies o parts (Ok (after, left)) = (after ≡ o.behind) × (one_function bodies.first parts (placed next o) ≡ accepted tt) × Onward s bodies parts o.function left
TurnedAs s next bodies o parts (Err r) = one_function bodies.first parts (placed next o) ≡ refused (number_of r.reason) r.offset.0

pub record Turns (s : List ℕ) (next : Cursor) (bodies : Bodies) (r : Result (Cursor × Bodies) Refusal) : Type 0 where
  pub opened : Opened s next
  pub kept : Kept s bodies
  pub says : TurnedAs s next bodies opened kept.parts r

-- a payload that was accepted: functions that rise
pub record Listed (s : List ℕ) (payload : Cursor) : Type 0 where
  pub functions : List (Placed Hints)
  pub last : Cursor
  pub stand : Stands all_hints s payload functions last
  pub rising : RisingFunctions 0 functions

pub record Checks (s : List ℕ) (payload : Cursor) (all : Bodies) (r : Verdict) : Type 0 where
  pub listed : Listed s payload
  pub kept : Kept s all
  pub says : verdict_of r ≡ each_function all.first kept.parts listed.functions
