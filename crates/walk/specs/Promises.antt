-- THE PROMISES of the crate `walk`, each by the name of its function. They stand in the `ensures` of the public functions and nowhere else: what is shown of these names is shown of the functions. A promise relates what is lent to what comes back.
use Rattle.std.specs.Prelude.{ℕ, Bool, List, ◌++◌, ◌≡◌}
use Rattle.format.specs.Bytes.{same}
use Rattle.format.specs.Options.{map_some}
use Rattle.format.specs.Questions.{as_place, answered}
use Rattle.format.specs.Reading.{map_judged}
use Rattle.format.specs.Walk.{section_count, section_at, custom_payload}
use Rattle.format.specs.Returned.{Answer}
use Rattle.reading.specs.Cursors.{left}
use Rattle.reading.specs.declared.Cursor.{Cursor}
use Rattle.walk.specs.Sections.{Calls, IdRuled, NameRuled, Sees}
use Rattle.walk.specs.Steps.{Begins, Steps}
use Rattle.walk.specs.Surveys.{counted, section_answered, section_place, Surveys}
use Rattle.walk.specs.Returned.{Counted}
use Rattle.walk.specs.Returned.{Called}
use Rattle.walk.specs.declared.rules.Seen.{Seen}
use Rattle.walk.specs.Returned.{Ruling}
use Rattle.walk.specs.Returned.{Began}
use Rattle.walk.specs.Returned.{Step}
use Rattle.walk.specs.declared.step.Walk.{Walk}
use Rattle.walk.specs.Returned.{SectionAnswer}
use Rattle.walk.specs.Returned.{Surveyed}

-- walk
abbrev pub WalkCount : (m : List ℕ) → Counted → Type 0
WalkCount m r = counted r ≡ section_count m

abbrev pub WalkSectionAt : (m : List ℕ) (position : ℕ) → SectionAnswer → Type 0
WalkSectionAt m position r = section_answered r ≡ map_judged (map_some section_place) (section_at position m)

abbrev pub WalkCustom : (m name : List ℕ) → Answer → Type 0
WalkCustom m name r = answered r ≡ as_place (custom_payload name m)

abbrev pub WalkCustomJoined : (m front rest : List ℕ) → Answer → Type 0
WalkCustomJoined m front rest r = answered r ≡ as_place (custom_payload (front ++ rest) m)

-- walk::called
abbrev pub WalkIsCalled : (s : List ℕ) (part : Cursor) (name : List ℕ) → Bool → Type 0
WalkIsCalled s part name r = r ≡ same name (left s part)

abbrev pub WalkIsJoined : (s : List ℕ) (part : Cursor) (front rest : List ℕ) → Bool → Type 0
WalkIsJoined s part front rest r = r ≡ same (front ++ rest) (left s part)

-- walk::rows
abbrev pub WalkCalled : (s : List ℕ) (part : Cursor) → Called → Type 0
WalkCalled s part r = Calls (left s part) r

-- walk::rules
abbrev pub WalkJudgeId : (seen : Seen) (id : ℕ) → Ruling → Type 0
WalkJudgeId seen id r = IdRuled seen id r

abbrev pub WalkJudgeName : (seen : Seen) (called : Called) → Ruling → Type 0
WalkJudgeName seen called r = NameRuled seen called r

abbrev pub WalkSee : (seen : Seen) (id : ℕ) (called : Called) → Seen → Type 0
WalkSee seen id called r = Sees seen id called r

-- walk::step
abbrev pub WalkBegin : (m : List ℕ) → Began → Type 0
WalkBegin m r = Begins m r

abbrev pub walk_step : (self : Walk) (m : List ℕ) → Step → Type 0
walk_step self m r = Steps m self r

-- walk::survey
abbrev pub WalkSurvey : (m : List ℕ) (position : ℕ) (front rest : List ℕ) → Surveyed → Type 0
WalkSurvey m position front rest r = Surveys m position (front ++ rest) r
