-- Many sections at once: what is known of the sections behind, at a place in a part. The part's first byte stands at `base`. Assumes nothing.
use Rattle.std.specs.Prelude.{ℕ, ◌+◌, ◌-◌, ◌≤◌, ◌<◌, cond, List, ◌≡◌, eqb, length, Result, Ok, Err, Some, None}
use Rattle.std.proofs.Math.Seq.{slice}
use Rattle.format.specs.Refusals.{number_of}
use Rattle.format.specs.Reading.{Judged, accepted, refused}
use Rattle.format.specs.declared.Reason.{Reason}
use Rattle.walk.specs.Sections.{bit}
use Rattle.stream.specs.Contents.{Called, sizing, paying}
use Rattle.stream.specs.Counting.{fresh}
use Rattle.stream.specs.Stream.{Done, plain_done, custom_done, Phase, settled, skipping, in_custom_lem, skip, custom, State, steps, standing}
use Rattle.stream.specs.Calls.{most}
use Rattle.stream.specs.Fields.{in_phase, held, place_from, first_row, state_from}
use Rattle.stream.specs.Phases.{seen_so, Feeding}
use Rattle.stream.specs.declared.Spot.{Spot}
use Rattle.stream.specs.declared.Stream.{Stream}
use Rattle.stream.specs.declared.heads.Head.{Head}
use Rattle.stream.specs.declared.heads.Head.TheVariants as head
use Rattle.stream.specs.declared.heads.Moved.{Moved}
use Rattle.stream.specs.declared.heads.Passed.{Passed}
use Rattle.stream.specs.declared.heads.Passed.TheVariants as passed
use Rattle.stream.specs.declared.known.Known.{Known}
use Rattle.stream.specs.Returned.{Lead}

abbrev pub done_of : Known → Done
done_of k = record {
  rank = k.seen.rank;
  code = k.seen.code;
  told = record {
    count = k.count;
    name = place_from (bit k.seen.there 0) k.name;
    hints = place_from (bit k.seen.there 1) k.hints;
    older = place_from (bit k.seen.there 2) k.older;
  };
}

-- what a state knows
abbrev pub known_in : Stream → (at : ℕ) → Known
known_in f at = record { at = at; count = f.count; seen = seen_so f; name = f.name; hints = f.hints; older = f.older }

-- the states that it leads to, as a caller holds them
abbrev pub between_at : (total : ℕ) → Known → Stream
between_at total k = in_phase total (settled (accepted (done_of k)))

abbrev pub skipping_at : (total : ℕ) → Known → (at left : ℕ) → Stream
skipping_at total k at left = in_phase total (skipping (done_of k) at left)

abbrev pub paying_at : (total : ℕ) → Known → (at left row text : ℕ) → Stream
paying_at total k at left row text = in_phase total (in_custom_lem (done_of k) at left (paying (first_row row) text))

-- so much is known at a place in the part
pub record Behind (d : Done) (to : ℕ) (r : Known) : Type 0 where
  pub at : r.at ≡ to
  pub done : done_of r ≡ d

-- a row's place, counted from 1
abbrev pub with_place : Known → (row : ℕ) → Spot → Known
with_place k row spot = record {
  at = k.at;
  count = k.count;
  seen = k.seen;
  name = cond (eqb row 1) spot k.name;
  hints = cond (eqb row 2) spot k.hints;
  older = cond (eqb row 3) spot k.older;
}

-- what the walk's rules say of a custom section whose id byte stands at an offset
abbrev pub called_so : (row : ℕ) → Spot → Called
called_so row spot = record { row = first_row row; at = spot.offset; length = spot.length }

abbrev pub judged_after : (at : ℕ) → Result Known Reason → Judged Done
judged_after at (Ok k) = accepted (done_of k)
judged_after at (Err why) = refused (number_of why) at

pub record AfterCustom (k : Known) (row : ℕ) (spot : Spot) (to : ℕ) (r : Result Known Reason) : Type 0 where
  pub says : (at : ℕ) → custom_done (done_of k) at (accepted (called_so row spot)) ≡ judged_after at r
  pub at : (next : Known) → r ≡ Ok next → next.at ≡ to

-- WHAT A STEP OVER A HEAD OR A SECTION SAYS

-- between two sections
abbrev pub stands : (base : ℕ) → Known → State
stands base k = standing (base + k.at) (settled (accepted (done_of k)))

-- a place in the part
pub record Within (part : List ℕ) (k : Known) : Type 0 where
  pub here : k.at < length part

-- so many bytes of a section's contents are here
pub record Sized (part : List ℕ) (from size here : ℕ) : Type 0 where
  pub within : from + here ≤ length part
  pub inside : here ≤ size

-- a custom section's contents up to its payload: the number of its name's bytes, and the name
pub record NameRead (part : List ℕ) (from size row to more : ℕ) : Type 0 where
  pub moves : from ≤ to
  pub within : to ≤ length part
  pub row_known : row ≤ 3
  pub reads : (d : Done) (at o : ℕ) → steps (standing o (custom d at size (sizing o fresh) o)) (slice from to part) ≡ standing (o + (to - from)) (custom d at more (paying (first_row row) (o + (to - from))) (o + (to - from)))

abbrev pub IsCustomHead : (part : List ℕ) (from size : ℕ) → Head → Type 0
IsCustomHead part from size head.Unread = Unit {0}
IsCustomHead part from size (head.Plain id to more) = ⊥
IsCustomHead part from size (head.Custom row to more) = NameRead part from size row to more

pub record CustomHead (part : List ℕ) (from size : ℕ) (r : Head) : Type 0 where
  pub says : IsCustomHead part from size r

-- a head, behind which the reader is in the middle of this: `at` is the section's offset, and the head ends at `o`
pub record HeadRead (part : List ℕ) (k : Known) (from : ℕ) (then : (at o : ℕ) → Phase) : Type 0 where
  pub moves : k.at < from
  pub within : from ≤ length part
  pub reads : (at : ℕ) → steps (standing at (settled (accepted (done_of k)))) (slice k.at from part) ≡ standing (at + (from - k.at)) (then at (at + (from - k.at)))

pub record PlainRead (part : List ℕ) (k : Known) (id from size : ℕ) : Type 0 where
  pub head : HeadRead part k from (λ at o. skip (plain_done (done_of k) id) at size)

pub record CustomRead (part : List ℕ) (k : Known) (row from size : ℕ) : Type 0 where
  pub row_known : row ≤ 3
  pub head : HeadRead part k from (λ at o. custom (done_of k) at size (paying (first_row row) o) o)

abbrev pub head_of : (part : List ℕ) → Known → Head → Type 0
head_of part k head.Unread = Unit {0}
head_of part k (head.Plain id from size) = PlainRead part k id from size
head_of part k (head.Custom row from size) = CustomRead part k row from size

pub record Heads (part : List ℕ) (k : Known) (r : Head) : Type 0 where
  pub says : head_of part k r

-- a section begins here, and all of the part can be counted
pub record Here (base : ℕ) (part : List ℕ) (k : Known) : Type 0 where
  pub here : k.at < length part
  pub counted : k.count ≤ base + k.at
  pub room : base + length part ≤ most

-- the section was read, and this is known behind it
pub record Read (base : ℕ) (part : List ℕ) (k next : Known) : Type 0 where
  pub moves : k.at < next.at
  pub within : next.at ≤ length part
  pub means : stands base next ≡ steps (stands base k) (slice k.at next.at part)

abbrev pub OnwardOf : (base : ℕ) (part : List ℕ) → Known → Passed → Type 0
OnwardOf base part k (passed.Behind next) = Read base part k next
OnwardOf base part k (passed.Cut stream) = stream ≡ held (steps (stands base k) (slice k.at (length part) part))
OnwardOf base part k passed.Unread = Unit {0}

pub record Onward (base : ℕ) (part : List ℕ) (k : Known) (r : Passed) : Type 0 where
  pub says : OnwardOf base part k r

-- from section to section
pub record Begins (base : ℕ) (part : List ℕ) (k : Known) : Type 0 where
  pub within : k.at ≤ length part
  pub counted : k.count ≤ base + k.at
  pub room : base + length part ≤ most

pub record Sectioned (base : ℕ) (part : List ℕ) (k : Known) (r : Moved) : Type 0 where
  pub onward : k.at ≤ r.at
  pub within : r.at ≤ length part
  pub means : r.stream ≡ held (steps (stands base k) (slice k.at r.at part))

-- a payload that is over within the part
pub record PayloadHere (f : Stream) (part : List ℕ) : Type 0 where
  pub feeding : Feeding f part
  pub phase : f.phase ≡ 7
  pub left : f.left ≤ length part

-- what a part begins in the middle of is over within it
pub record Led (f : Stream) (part : List ℕ) (k : Known) : Type 0 where
  pub within : k.at ≤ length part
  pub means : stands f.total k ≡ steps (state_from f) (slice 0 k.at part)

abbrev pub LeadOf : Stream → (part : List ℕ) → Lead → Type 0
LeadOf f part (Some k) = Led f part k
LeadOf f part None = Unit {0}

pub record Leads (f : Stream) (part : List ℕ) (r : Lead) : Type 0 where
  pub says : LeadOf f part r
