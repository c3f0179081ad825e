-- Wrong walks: one that refuses everything, one that accepts everything, one whose count of sections, or whose length of a section or of a payload, is not taken from the bytes, one that finds no section. Each promise of the walk rules them out, and so does that of its C call.
use Rattle.std.specs.Prelude.{ℕ, List, ◌++◌, false, eqb, drop, Ok, Err, Some, None}
use Prim.Native.String.{String}
use Rattle.std.proofs.Math.Option.{Option, none, some}
use Rattle.std.proofs.Math.Path.{refl}
use Rattle.format.specs.Examples.{hex, digit}
use Rattle.format.specs.Numbers.{number, groups}
use Rattle.format.specs.Options.{map_some}
use Rattle.format.specs.Parts.{sized}
use Rattle.format.specs.Reading.{Outcome, got, stop, Judged, accepted, refused, map_judged}
use Rattle.format.specs.Refusals.{number_of}
use Rattle.format.specs.Walk.{preamble, begins, greatest_id, is_custom, is_code, is_data, rank, custom, is_called, name_section, hint_section, nothing, seeing, id_rules, name_rules, section, step, sections, framing, walk, section_count, section_at}
use Rattle.walk.specs.Sections.{seen_of}
use Rattle.walk.specs.Surveys.{section_place}
use Rattle.walk.specs.declared.survey.SectionPlace.{SectionPlace}
use Rattle.walk.specs.Returned.{Surveyed}
use Rattle.walk.specs.Returned.{Began}
use Rattle.walk.specs.Returned.{Step}
use Rattle.walk.specs.declared.step.Walk.{Walk}
use Rattle.promises.specs.Judging.{JudgesRightly, Verdicts, judges_rightly}
use Rattle.promises.specs.RuledOut.{RuledOut, Always, accepted_in, refuses, Tells, by_two_inputs}

-- a module: the preamble and some bytes
unfoldable pub module' : String → List ℕ
module' s = preamble ++ hex s

module _ {Result : Type 0} (promise : List ℕ → Result → Type 0) (says : Result → Judged ℕ) where
  pub record CountsRightly : Type 0 where
    pub judges : JudgesRightly promise says
    pub one_count : (n : ℕ) → RuledOut promise (λ _ r. Always n (accepted_in (says r)))

pub count_verdicts : Verdicts (λ m. section_count m)
unfolding module' hex digit preamble begins greatest_id is_custom is_data rank is_code nothing seeing id_rules name_rules is_called name_section hint_section section sections framing walk section_count number groups sized custom
count_verdicts = record { fine = module' ""; bad = refuses (hex "") 1 0; worse = refuses (module' "FF 00") 5 8; is_fine = λ h. h; is_bad = refl; is_worse = refl; apart = refl }

module _ {Result : Type 0} {promise : List ℕ → Result → Type 0} {says : Result → Judged ℕ} (tells : Tells promise says section_count) where
  -- no section, and one
  pub counts_rightly : CountsRightly promise says
  unfolding module' hex digit preamble begins greatest_id is_custom is_data rank is_code nothing seeing id_rules name_rules is_called name_section hint_section section sections framing walk section_count number groups sized custom
  counts_rightly = record {
    judges = judges_rightly tells count_verdicts;
    one_count = by_two_inputs tells (λ j. accepted_in j) (eqb 0) (module' "") (module' "01 00") {k = 0} {l = 1} refl refl refl refl;
  }

-- the one pass that all questions of the walk share, whichever position and name it looks for
abbrev pub count_surveyed : Surveyed → Judged ℕ
count_surveyed (Ok t) = accepted t.count
count_surveyed (Err r) = refused (number_of r.reason) r.offset.0

-- the section at a position: an empty one, one of a byte; what is refused is damaged behind it
abbrev pub section_wanted : List ℕ × ℕ → Judged (Option SectionPlace)
section_wanted x = map_judged (map_some section_place) (section_at x.1 x.0)

-- Behind the preamble: a walk that never begins, and one that begins anywhere
abbrev pub begun : Began → Judged ℕ
begun (Ok w) = accepted w.at
begun (Err r) = refused (number_of r.reason) r.offset.0

-- how far a reading came
abbrev pub came : {A : Type 0} → Outcome A → Judged ℕ
came (got v o bs) = accepted o
came (stop n at) = refused n at

-- A step: one that refuses everything, never refuses, ends at once, or goes on always at the same offset. An empty section is a section: the walk goes on behind it, at 10
abbrev pub gone_on : Step → Judged (Option ℕ)
gone_on (Ok (Some (s, next))) = accepted (some next.at)
gone_on (Ok None) = accepted none
gone_on (Err r) = refused (number_of r.reason) r.offset.0

abbrev pub goes_on : {A : Type 0} → Outcome (Option A) → Judged (Option ℕ)
goes_on (got none o bs) = accepted none
goes_on (got (some s) o bs) = accepted (some o)
goes_on (stop n at) = refused n at

abbrev pub step_wanted : List ℕ × Walk → Judged (Option ℕ)
step_wanted x = goes_on (step (seen_of x.1.seen) x.1.at (drop x.1.at x.0))

-- behind the preamble, with nothing seen
abbrev pub start : Walk
start = record { at = 8; seen = record { rank = 0; code = false; there = 0 } }
