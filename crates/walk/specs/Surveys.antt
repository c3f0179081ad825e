-- Rules R3.1 to R3.5 of docs/RULES.md.
-- What one pass over a module gathers. Assumes nothing.
use Rattle.std.specs.Prelude.{ℕ, suc, Bool, cond, List, [], ◌∷◌, ◌≡◌, eqb, length, Ok, Err, Some, None}
use Rattle.std.proofs.Math.Option.{Option, none, some}
use Rattle.format.specs.Refusals.{number_of}
use Rattle.format.specs.Reading.{Judged, accepted, refused, map_judged}
use Rattle.format.specs.Options.{map_some}
use Rattle.format.specs.Parts.{place_of}
use Rattle.format.specs.Questions.{answered}
use Rattle.format.specs.Walk.{Section as AnySection, payload_of, walk, walk_from}
use Rattle.format.specs.Returned.{Answer}
use Rattle.format.specs.declared.Place.{Place}
use Rattle.walk.specs.Sections.{seen_of, custom_of, section_of}
use Rattle.walk.specs.Returned.{Counted}
use Rattle.walk.specs.Returned.{Custom}
use Rattle.walk.specs.declared.step.Section.{Section}
use Rattle.walk.specs.Returned.{SectionAnswer}
use Rattle.walk.specs.declared.step.Walk.{Walk}
use Rattle.walk.specs.declared.survey.SectionPlace.{SectionPlace}
use Rattle.walk.specs.Returned.{Surveyed}
use Rattle.walk.specs.declared.survey.Tally.{Tally}

-- a section's id, the offset of its id byte and the length of its contents
abbrev pub section_place : AnySection → SectionPlace
section_place s = record { id = s.id; at = record { 0 = s.at }; length = length s.contents.bytes }

abbrev pub section_answered : SectionAnswer → Judged (Option SectionPlace)
section_answered (Ok None) = accepted none
section_answered (Ok (Some p)) = accepted (some p)
section_answered (Err r) = refused (number_of r.reason) r.offset.0

-- what was found before stays
abbrev pub or_found : {A : Type 0} → Judged (Option A) → Option A → Judged (Option A)
or_found (accepted none) found = accepted found
or_found (accepted (some v)) found = accepted (some v)
or_found (refused n at) found = refused n at

pub record SectionKept (m : List ℕ) (before : SectionAnswer) (here : Bool) (s : Section) (r : SectionAnswer) : Type 0 where
  pub says : section_answered r ≡ or_found (section_answered before) (cond here (some (section_place (section_of m s))) none)

pub record PayloadKept (m : List ℕ) (before : Answer) (c : Custom) (name : List ℕ) (r : Answer) : Type 0 where
  pub says : answered r ≡ or_found (answered before) (map_some place_of (payload_of name (custom_of m c)))

-- What has been found: how many sections, the one at a position, and the first payload of a name
pub record Found : Type 0 where
  pub count : ℕ
  pub section : Judged (Option SectionPlace)
  pub payload : Judged (Option Place)

abbrev pub nothing_found : Found
nothing_found = record { count = 0; section = accepted none; payload = accepted none }

module _ (position : ℕ) (name : List ℕ) where
  unfoldable pub find_more : Found → AnySection → Found
  find_more f s = record {
    count = suc f.count;
    section = or_found f.section (cond (eqb f.count position) (some (section_place s)) none);
    payload = or_found f.payload (map_some place_of (payload_of name s.custom));
  }

  unfoldable pub find_all : Found → List AnySection → Found
  find_all f [] = f
  find_all f (s ∷ ss) = find_all (find_more f s) ss

-- as the code has it
abbrev pub found_of : Tally → Found
found_of t = record { count = t.count; section = section_answered t.section; payload = answered t.payload }

abbrev pub surveyed : Surveyed → Judged Found
surveyed (Ok t) = accepted (found_of t)
surveyed (Err r) = refused (number_of r.reason) r.offset.0

pub record Tallies (m : List ℕ) (position : ℕ) (name : List ℕ) (t : Tally) (s : Section) (r : Tally) : Type 0 where
  pub says : found_of r ≡ find_more position name (found_of t) (section_of m s)

pub record SurveysFrom (m : List ℕ) (position : ℕ) (name : List ℕ) (w : Walk) (r : Surveyed) : Type 0 where
  pub says : surveyed r ≡ map_judged (find_all position name nothing_found) (walk_from m (seen_of w.seen) w.at)

pub record Surveys (m : List ℕ) (position : ℕ) (name : List ℕ) (r : Surveyed) : Type 0 where
  pub says : surveyed r ≡ map_judged (find_all position name nothing_found) (walk m)

-- a count, or a refusal
abbrev pub counted : Counted → Judged ℕ
counted (Ok n) = accepted n
counted (Err r) = refused (number_of r.reason) r.offset.0
