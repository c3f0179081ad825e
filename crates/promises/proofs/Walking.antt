-- Wrong walks: one that refuses everything, one that accepts everything, one whose count of sections, or whose length of a section or of a payload, is not taken from the bytes, one that finds no section. Each promise of the walk rules them out, and so does that of its C call.
use Rattle.std.specs.Prelude.{ℕ, List, [], ◌++◌, ◌≡◌, eqb, Ok, Err, Some, None}
use Rattle.std.proofs.Math.Path.{refl}
use Rattle.std.proofs.Common.{ap, ◌∙◌}
use Rattle.format.specs.Bytes.{ascii, same}
use Rattle.format.specs.Examples.{hex, digit}
use Rattle.format.specs.Numbers.{number, groups}
use Rattle.format.specs.Options.{map_some}
use Rattle.format.specs.Parts.{sized, name, remaining}
use Rattle.format.specs.Questions.{as_place, answered}
use Rattle.format.specs.Reading.{map_judged}
use Rattle.format.specs.Text.{utf8, characters, character, completes}
use Rattle.format.specs.Walk.{preamble, begins, greatest_id, is_custom, is_code, is_data, rank, custom, is_called, name_section, hint_section, nothing, seeing, id_rules, name_rules, section, step, sections, framing, walk, section_count, section_at, payload_of, payload_in, custom_payload}
use Rattle.walk.specs.Steps.{Begins, Steps}
use Rattle.walk.proofs.AnswerLaws.{count_refused, count_found}
use Rattle.walk.specs.Surveys.{counted, section_answered, section_place, Surveys}
use Rattle.walk.specs.declared.step.Walk.{Walk}
use Rattle.wakemiono.specs.Calls as call
use Rattle.promises.specs.Answers.{says_count, count_said, says_section, section_said}
use Rattle.promises.specs.Asking.{AnswersRightly, Answers, answers_rightly, PlaceCalls, place_answers, place_calls}
use Rattle.promises.specs.RuledOut.{RuledOut, Refuses, Accepts, finds, refuses, Tells, by_input}
use Rattle.promises.specs.Walking.{module', CountsRightly, counts_rightly, count_surveyed, section_wanted, begun, came, gone_on, goes_on, step_wanted, start}

pub count : CountsRightly (λ m r. counted r ≡ section_count m) counted
count = counts_rightly (λ m r meets. meets)

pub wm_walk : CountsRightly (λ m a. call.WmWalk m a) says_count
wm_walk = counts_rightly (λ m a meets. ap says_count meets ∙ count_said (section_count m))

survey_told : (position : ℕ) (name : List ℕ) → Tells (λ m r. Surveys m position name r) count_surveyed section_count
survey_told position _ m (Ok t) meets = count_found meets
survey_told position _ m (Err r) meets = count_refused meets

pub survey : (position : ℕ) (name : List ℕ) → CountsRightly (λ m r. Surveys m position name r) count_surveyed
survey position name = counts_rightly (survey_told position name)

section_answers : Answers section_wanted (λ s. s.length) 0 (eqb 0)
unfolding module' hex digit preamble begins greatest_id is_custom is_data rank is_code nothing seeing id_rules name_rules is_called name_section hint_section section sections framing walk section_at number groups sized custom
section_answers = record {
  empty = finds (module' "01 00", 0) (record { id = 1; at = record { 0 = 8 }; length = 0 });
  more = finds (module' "01 00 02 01 AA", 1) (record { id = 2; at = record { 0 = 10 }; length = 1 });
  bad = refuses (module' "01 00 01 00", 0) 6 10;
  worse = refuses (module' "01 00 02 01", 0) 2 11;
  is_empty = refl;
  is_more = refl;
  is_bad = refl;
  is_worse = refl;
  size_empty = refl;
  test_empty = refl;
  test_more = refl;
  apart = refl;
}

pub section_at_lem : AnswersRightly (λ (x : List ℕ × ℕ) r. section_answered r ≡ map_judged (map_some section_place) (section_at x.1 x.0)) section_answered (λ s. s.length) 0
section_at_lem = answers_rightly (λ x r meets. meets) section_answers

pub wm_section : AnswersRightly (λ (x : List ℕ × ℕ) a. call.WmSection x.1 x.0 a) says_section (λ s. s.length) 0
wm_section = answers_rightly (λ x a meets. ap says_section meets ∙ section_said (section_wanted x)) section_answers

-- the payload of the first custom section of a name, also of one that is lent in two pieces
pub custom_payload_lem : PlaceCalls (λ (x : List ℕ × List ℕ). as_place (custom_payload x.1 x.0))
unfolding module' hex digit ascii same utf8 characters character completes preamble begins greatest_id is_custom is_data rank is_code nothing seeing id_rules name_rules is_called name_section hint_section section sections framing walk number groups sized name remaining custom payload_of payload_in custom_payload as_place
custom_payload_lem = place_calls _ (place_answers _
    (finds (module' "00 02 01 78", ascii "x") 12)
    (finds (module' "00 03 01 78 AA", ascii "x") 12)
    (refuses (module' "00 02 01 78 FF 00", ascii "x") 5 12)
    (refuses (module' "00 02 01 78 00 02 01 FF", ascii "x") 4 15)
    refl refl refl refl refl)

pub custom_joined : AnswersRightly (λ (x : List ℕ × List ℕ × List ℕ) r. answered r ≡ as_place (custom_payload (x.1 ++ x.2) x.0)) answered (λ p. p.length) 0
unfolding module' hex digit ascii same utf8 characters character completes preamble begins greatest_id is_custom is_data rank is_code nothing seeing id_rules name_rules is_called name_section hint_section section sections framing walk number groups sized name remaining custom payload_of payload_in custom_payload as_place
custom_joined = answers_rightly (λ x r meets. meets) (place_answers _
    (finds (module' "00 03 02 78 79", ascii "x", ascii "y") 13)
    (finds (module' "00 04 02 78 79 AA", ascii "x", ascii "y") 13)
    (refuses (module' "00 03 02 78 79 FF 00", ascii "x", ascii "y") 5 13)
    (refuses (module' "00 03 02 78 79 00 02 01 FF", ascii "x", ascii "y") 4 16)
    refl refl refl refl refl)

begin_told : Tells (λ m r. Begins m r) begun (λ m. came (begins preamble 0 m))
begin_told m (Ok w) meets = ap came meets.means
begin_told m (Err r) meets = ap came meets.means

pub begin_refuses : RuledOut (λ m r. Begins m r) (λ _ r. Refuses (begun r))
unfolding module' hex preamble begins
begin_refuses = by_input begin_told (λ j. Refuses j) (module' "") (λ h. h)

pub begin_accepts : RuledOut (λ m r. Begins m r) (λ _ r. Accepts (begun r))
unfolding preamble begins
begin_accepts = by_input begin_told (λ j. Accepts j) [] (λ h. h)

step_told : Tells (λ (x : List ℕ × Walk) r. Steps x.0 x.1 r) gone_on step_wanted
step_told x (Ok (Some (s, next))) meets = ap goes_on meets.means
step_told x (Ok None) meets = ap goes_on meets.means
step_told x (Err r) meets = ap goes_on meets.means

step_answers : Answers step_wanted (λ next. next) 10 (eqb 10)
unfolding module' hex digit preamble greatest_id is_custom is_data rank is_called name_section hint_section id_rules name_rules section step number groups sized custom
step_answers = record {
  empty = finds (module' "01 00", start) 10;
  more = finds (module' "01 01 AA", start) 11;
  bad = refuses (module' "FF 00", start) 5 8;
  worse = refuses (module' "01 01", start) 2 9;
  is_empty = refl;
  is_more = refl;
  is_bad = refl;
  is_worse = refl;
  size_empty = refl;
  test_empty = refl;
  test_more = refl;
  apart = refl;
}

pub step_on : AnswersRightly (λ (x : List ℕ × Walk) r. Steps x.0 x.1 r) gone_on (λ next. next) 10
step_on = answers_rightly step_told step_answers
