-- What functions hand back, by the names that src/ gives these types. Assumes nothing.
use Rattle.std.specs.Prelude.{ℕ, Result, Option}
use Rattle.format.specs.declared.Refusal.{Refusal}
use Rattle.format.specs.declared.Reason.{Reason}
use Rattle.reading.specs.declared.Cursor.{Cursor}
use Rattle.walk.specs.declared.step.Section.{Section}
use Rattle.walk.specs.declared.step.Walk.{Walk}
use Rattle.walk.specs.declared.survey.SectionPlace.{SectionPlace}
use Rattle.walk.specs.declared.survey.Tally.{Tally}

abbrev pub Counted : Type 0
Counted = Result ℕ Refusal

abbrev pub Called : Type 0
Called = Option ℕ

abbrev pub Ruling : Type 0
Ruling = Result (Unit {0}) Reason

abbrev pub Custom : Type 0
Custom = Option (Cursor × Cursor)

abbrev pub Step : Type 0
Step = Result (Option (Section × Walk)) Refusal

abbrev pub Began : Type 0
Began = Result Walk Refusal

abbrev pub SectionAnswer : Type 0
SectionAnswer = Result (Option SectionPlace) Refusal

abbrev pub Surveyed : Type 0
Surveyed = Result Tally Refusal
