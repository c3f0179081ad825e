-- What the code says of an index in a map that was accepted. Assumes nothing.
use Rattle.std.specs.Prelude.{ℕ, List, ◌≡◌, Result, Ok, Err, Some, None}
use Rattle.std.proofs.Math.Option.{Option, none, some}
use Rattle.format.specs.Parts.{Part, sized}
use Rattle.format.specs.Reading.{Judged, accepted, refused}
use Rattle.format.specs.Refusals.{number_of}
use Rattle.format.specs.Tables.{Table, lookup, table}
use Rattle.format.specs.declared.Refusal.{Refusal}
use Rattle.format.specs.Why.{Why as AnyWhy, named, no_subsection, no_group, no_entry, why_in, group_in}
use Rattle.reading.specs.Standing.{Stands}
use Rattle.reading.specs.declared.Cursor.{Cursor}
use Rattle.neighbours.specs.Returned.{Neighbour}
use Rattle.neighbours.specs.declared.Why.{Why}
use Rattle.neighbours.specs.declared.Why.TheVariants.{Named, NoSubsection, NoGroup, NoEntry}

-- the neighbour that the code means, the reason, and what a call says
abbrev pub near_meant : Neighbour → Option ℕ
near_meant None = none
near_meant (Some k) = some k

abbrev pub reason_meant : Why → AnyWhy
reason_meant (Named id position) = named id position
reason_meant NoSubsection = no_subsection
reason_meant NoGroup = no_group
reason_meant (NoEntry below above) = no_entry (near_meant below) (near_meant above)

abbrev pub why_meant : Result Why Refusal → Judged AnyWhy
why_meant (Ok w) = accepted (reason_meant w)
why_meant (Err r) = refused (number_of r.reason) r.offset.0

-- of the map that stands there, and of the groups
pub record SaysInMap (id key : ℕ) (s : List ℕ) (c : Cursor) (r : Why) : Type 0 where
  pub value : Table Part
  pub next : Cursor
  pub stands : Stands (table sized) s c value next
  pub says : reason_meant r ≡ why_in id key value

pub record SaysInGroup (key inner : ℕ) (s : List ℕ) (c : Cursor) (r : Why) : Type 0 where
  pub value : Table (Table Part)
  pub next : Cursor
  pub stands : Stands (table (table sized)) s c value next
  pub says : reason_meant r ≡ group_in inner (lookup key value)
