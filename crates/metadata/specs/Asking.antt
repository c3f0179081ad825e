-- What judging a payload whole comes to, with what it holds where it is asked. Assumes nothing.
use Rattle.std.specs.Prelude.{ℕ, cond, List, ◌≡◌, ltb, Result, Ok, Err}
use Rattle.std.proofs.Math.Option.{Option}
use Rattle.format.specs.Refusals.{number_of}
use Rattle.format.specs.Options.{some_then}
use Rattle.format.specs.Reading.{Reader, Judged, accepted, refused, map_judged}
use Rattle.format.specs.Parts.{Part}
use Rattle.format.specs.Metadata.{judge_metadata}
use Rattle.format.specs.declared.Reason.TheVariants.{LeftOver}
use Rattle.format.specs.declared.Refusal.{Refusal}
use Rattle.reading.specs.Cursors.{left}
use Rattle.reading.specs.declared.Cursor.{Cursor}
use Rattle.tables.specs.Finding.{HeldInside}
use Rattle.tables.specs.Seeking.{wanted_in}
use Rattle.tables.specs.Steps.{held_of}
use Rattle.tables.specs.Returned.{Held}
use Rattle.tables.specs.declared.Wanted.{Wanted}

-- what it has where it is asked, or the refusal
abbrev pub Judgement : Type 0
Judgement = Result Held Refusal

-- bytes behind the lists are left over
abbrev pub filled_with : Held → Cursor → Judgement
filled_with held next = cond (ltb next.at next.end) (Err (record { reason = LeftOver; offset = record { 0 = next.at } })) (Ok held)

abbrev pub asks_to : List ℕ → Judgement → Judged (Option Part)
asks_to s (Ok held) = accepted (held_of s held)
asks_to s (Err r) = refused (number_of r.reason) r.offset.0

-- what is held lies in what was lent
abbrev pub JudgedInside : List ℕ → Judgement → Type 0
JudgedInside s (Ok held) = HeldInside s held
JudgedInside s (Err r) = Unit {0}

-- an accepted payload, and what is wanted of it
unfoldable pub wanted_of : Reader Part → (function offset : Wanted) → ℕ → List ℕ → Judged (Option Part)
wanted_of value function offset o bs = map_judged (λ t. some_then (wanted_in function t) (wanted_in offset)) (judge_metadata value o bs)

pub record JudgesFor (value : Reader Part) (function offset : Wanted) (s : List ℕ) (c : Cursor) (r : Judgement) : Type 0 where
  pub says : asks_to s r ≡ wanted_of value function offset c.at (left s c)
  pub inside : JudgedInside s r
