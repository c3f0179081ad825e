-- Wrong judges: one that refuses everything, one that accepts everything, one that gives every refusal at one offset. Each judging call's promise rules them out, and so does that of its C call.
use Rattle.std.specs.Prelude.{ℕ, false, ◌≡◌, refl, eqb, length}
use Rattle.std.proofs.Common.{ap, subst, ◌∙◌, eq-eqb}
use Rattle.format.specs.Examples.{hex, digit}
use Rattle.format.specs.Metadata.{hint_of, any_item, hint_item, metadata, judge_metadata}
use Rattle.format.specs.Names.{known, known_kind, wider, wider_kind, kind_in, contents, subsections, payload, judge_names}
use Rattle.format.specs.Numbers.{number, groups}
use Rattle.format.specs.Older.{times, vector, zero_byte, older_kind, older_hint, older_entry, judge_older}
use Rattle.format.specs.Parts.{sized}
use Rattle.format.specs.Reading.{Judged, refused, verdict}
use Rattle.format.specs.Tables.{lookup, rows, table}
use Rattle.format.specs.Verdicts.{verdict_of}
use Rattle.format.specs.declared.Edition.{Edition}
use Rattle.format.specs.declared.Edition.TheVariants.{First, Wider}
use Rattle.wakemiono.specs.Calls as call
use Rattle.promises.specs.Answers.{says_verdict, verdict_said}
use Rattle.promises.specs.RuledOut.{RuledOut, Refuses, Accepts, Always, offset_in, Refusing, refuses, Tells, by_input, by_two_inputs}

module _ {Lent Result B : Type 0} (promise : Lent → Result → Type 0) (says : Result → Judged B) where
  pub record JudgesRightly : Type 0 where
    pub refuses_everything : RuledOut promise (λ _ r. Refuses (says r))
    pub accepts_everything : RuledOut promise (λ _ r. Accepts (says r))
    pub one_offset : (at : ℕ) → RuledOut promise (λ _ r. Always at (offset_in (says r)))

-- Shown by an input that is accepted and two that are refused at different offsets
pub record Verdicts {Lent B : Type 0} (wanted : Lent → Judged B) : Type 0 where
  pub fine : Lent
  pub bad : Refusing Lent
  pub worse : Refusing Lent
  pub is_fine : Refuses (wanted fine) → ⊥
  pub is_bad : wanted bad.input ≡ refused bad.number bad.offset
  pub is_worse : wanted worse.input ≡ refused worse.number worse.offset
  pub apart : eqb bad.offset worse.offset ≡ false

module _ {Lent Result B : Type 0} {promise : Lent → Result → Type 0} {says : Result → Judged B} {wanted : Lent → Judged B} (tells : Tells promise says wanted) where
  pub judges_rightly : Verdicts wanted → JudgesRightly promise says
  judges_rightly v = record {
    refuses_everything = by_input tells (λ j. Refuses j) v.fine v.is_fine;
    accepts_everything = by_input tells (λ j. Accepts j) v.bad.input (λ h. subst (λ j. Accepts j) v.is_bad h);
    one_offset = by_two_inputs tells (λ j. offset_in j) (eqb v.bad.offset) v.bad.input v.worse.input (ap (λ j. offset_in j) v.is_bad) (ap (λ j. offset_in j) v.is_worse) (eq-eqb v.bad.offset v.bad.offset refl) v.apart;
  }

-- The name payload, by either edition: the empty one is accepted; a map without its count, and a size that is missing, are refused
names_verdicts : (edition : Edition) → Verdicts (λ p. verdict (judge_names (kind_in edition) 0 p))
unfolding hex digit number groups sized known known_kind wider wider_kind lookup contents subsections payload judge_names table
names_verdicts First = record { fine = hex ""; bad = refuses (hex "01 00") 2 2; worse = refuses (hex "01") 2 1; is_fine = λ h. h; is_bad = refl; is_worse = refl; apart = refl }
names_verdicts Wider = record { fine = hex ""; bad = refuses (hex "01 00") 2 2; worse = refuses (hex "01") 2 1; is_fine = λ h. h; is_bad = refl; is_worse = refl; apart = refl }

pub names_judge : (edition : Edition) → JudgesRightly (λ p r. verdict_of r ≡ verdict (judge_names (kind_in edition) 0 p)) verdict_of
names_judge edition = judges_rightly (λ p r meets. meets) (names_verdicts edition)

pub wm_names_judge : JudgesRightly (λ p a. call.WmNamesJudge p a) says_verdict
wm_names_judge = judges_rightly (λ p a meets. ap says_verdict meets ∙ verdict_said (length p) (verdict (judge_names known_kind 0 p))) (names_verdicts First)

pub wm_wide_names_judge : JudgesRightly (λ p a. call.WmWideNamesJudge p a) says_verdict
wm_wide_names_judge = judges_rightly (λ p a meets. ap says_verdict meets ∙ verdict_said (length p) (verdict (judge_names wider_kind 0 p))) (names_verdicts Wider)

-- Code metadata of any format, and hints: a payload without functions is accepted; one without its count, a function without its index, a hint of 2 are refused
metadata_verdicts : Verdicts (λ p. verdict (judge_metadata any_item 0 p))
unfolding hex digit number groups sized rows table any_item metadata judge_metadata
metadata_verdicts = record { fine = hex "00"; bad = refuses (hex "") 2 0; worse = refuses (hex "01") 2 1; is_fine = λ h. h; is_bad = refl; is_worse = refl; apart = refl }

hints_verdicts : Verdicts (λ p. verdict (judge_metadata hint_item 0 p))
unfolding hex digit number groups sized rows table hint_of hint_item metadata judge_metadata
hints_verdicts = record { fine = hex "00"; bad = refuses (hex "01 02 01 05 01 02") 12 4; worse = refuses (hex "01") 2 1; is_fine = λ h. h; is_bad = refl; is_worse = refl; apart = refl }

pub metadata_judge : JudgesRightly (λ p r. verdict_of r ≡ verdict (judge_metadata any_item 0 p)) verdict_of
metadata_judge = judges_rightly (λ p r meets. meets) metadata_verdicts

pub wm_metadata_judge : JudgesRightly (λ p a. call.WmMetadataJudge p a) says_verdict
wm_metadata_judge = judges_rightly (λ p a meets. ap says_verdict meets ∙ verdict_said (length p) (verdict (judge_metadata any_item 0 p))) metadata_verdicts

pub metadata_judge_hints : JudgesRightly (λ p r. verdict_of r ≡ verdict (judge_metadata hint_item 0 p)) verdict_of
metadata_judge_hints = judges_rightly (λ p r meets. meets) hints_verdicts

pub wm_hints_judge : JudgesRightly (λ p a. call.WmHintsJudge p a) says_verdict
wm_hints_judge = judges_rightly (λ p a meets. ap says_verdict meets ∙ verdict_said (length p) (verdict (judge_metadata hint_item 0 p))) hints_verdicts

-- Hints of the older edition: a payload without entries is accepted; one without its count, and a byte that is not zero, are refused
older_verdicts : Verdicts (λ p. verdict (judge_older 0 p))
unfolding hex digit number groups times vector zero_byte older_kind older_hint older_entry judge_older
older_verdicts = record { fine = hex "00"; bad = refuses (hex "") 2 0; worse = refuses (hex "01 00 80 00 00") 17 2; is_fine = λ h. h; is_bad = refl; is_worse = refl; apart = refl }

pub older_judge : JudgesRightly (λ p r. verdict_of r ≡ verdict (judge_older 0 p)) verdict_of
older_judge = judges_rightly (λ p r meets. meets) older_verdicts

pub wm_old_hints_judge : JudgesRightly (λ p a. call.WmOldHintsJudge p a) says_verdict
wm_old_hints_judge = judges_rightly (λ p a meets. ap says_verdict meets ∙ verdict_said (length p) (verdict (judge_older 0 p))) older_verdicts
