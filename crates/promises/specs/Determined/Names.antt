-- Each promise of the crate `names` determines what comes back, but for the two at the end.
use Rattle.std.specs.Prelude.{ℕ, List, ◌≡◌}
use Rattle.std.proofs.Common.{sym, ◌∙◌}
use Rattle.format.proofs.Determined.{Determines1, Determines2, Determines3, Determines4, DeterminesBoth4, Determines, equal_determined, meaning_determined, answer_determined, part_determined}
use Rattle.format.proofs.Laws.Answers.{same_answer}
use Rattle.format.specs.Laws.Refusals.{same_verdict}
use Rattle.format.specs.Parts.{Part}
use Rattle.format.specs.Questions.{answered}
use Rattle.format.specs.Reading.{verdict, accepted}
use Rattle.format.specs.Tables.{Table}
use Rattle.format.specs.Returned.{Answer}
use Rattle.tables.proofs.Same.{tells_same}
use Rattle.names.proofs.Same.{kind_same, frame_same, framed_same, stands_same}
use Rattle.names.specs.Frames.{judge_frames}
use Rattle.names.specs.declared.kinds.Kind.{Kind}
use Rattle.reading.specs.Cursors.{left}
use Rattle.reading.specs.declared.Cursor.{Cursor}
use Rattle.names.specs.Promises.{NamesAsk, NamesAskBytes, NamesTheName, NamesNamed, NamesNamedWithin, NamesAllKept, NamesOneName, NamesContent, NamesFrame, NamesFrameHere, NamesJudge, NamesFind, NamesKindOf, NamesTidyName, NamesIsCanonical, NamesIsCanonicalWidely, NamesAskIn}

pub record Names : Type 0 where
  -- names
  names_ask : Determines3 NamesAsk
  names_ask_bytes : DeterminesBoth4 NamesAskBytes
  -- names::asking
  names_the_name : Determines2 NamesTheName
  names_named : Determines3 NamesNamed
  names_named_within : Determines4 NamesNamedWithin
  names_all_kept : Determines2 NamesAllKept
  -- names::contents
  names_one_name : Determines2 NamesOneName
  -- names::frames
  names_frame : Determines3 NamesFrame
  names_frame_here : Determines2 NamesFrameHere
  -- names::judging
  names_judge : Determines2 NamesJudge
  -- names::kinds
  names_kind_of : Determines2 NamesKindOf
  -- names::telling
  names_tidy_name : Determines2 NamesTidyName
  names_is_canonical : Determines1 NamesIsCanonical
  -- names::telling_widely
  names_is_canonical_widely : Determines1 NamesIsCanonicalWidely
  -- names::within
  names_ask_in : Determines4 NamesAskIn

pub determined : Names
determined =
    record {
      names_ask = λ p edition q. answer_determined _;
      names_ask_bytes = λ p lent_at_lem edition q. part_determined _ _;
      names_the_name = λ s place a b h h'. same_answer a b (h.says ∙ sym h'.says);
      names_named = λ s place key a b h h'. same_answer a b (h.says ∙ sym h'.says);
      names_named_within = λ s place key inner a b h h'. same_answer a b (h.says ∙ sym h'.says);
      names_all_kept = λ s place a b h h'. same_answer a b (h.says ∙ sym h'.says);
      names_one_name = λ s part a b h h'. same_answer a b (h.says ∙ sym h'.says);
      names_frame = λ s c least. frame_same;
      names_frame_here = λ s c. framed_same;
      names_judge = λ p edition. meaning_determined same_verdict _;
      names_kind_of = λ edition id. meaning_determined kind_same _;
      names_tidy_name = λ s part. tells_same;
      names_is_canonical = λ p. equal_determined _;
      names_is_canonical_widely = λ p. equal_determined _;
      names_ask_in = λ s c edition q. answer_determined _;
    }

-- THE EXCEPTIONS, which leave open what nobody asks

-- names::contents::content leaves open which name it found on the way: whether the contents are accepted, and the refusal, are determined
pub content_verdict : (s : List ℕ) (part : Cursor) (kind : Kind) (a b : Answer) → NamesContent s part kind a → NamesContent s part kind b → verdict (answered a) ≡ verdict (answered b)
content_verdict s part kind a b p q = p.says ∙ sym q.says

-- names::judging::find leaves open what it says of a payload whose subsections are refused: of any other it is determined
pub find_determined : (s : List ℕ) (c : Cursor) (id : ℕ) (frames : Table Part) → judge_frames c.at (left s c) ≡ accepted frames → Determines (NamesFind s c id)
find_determined s c id frames e a b p q = stands_same a b (p.stands frames e) (q.stands frames e)
