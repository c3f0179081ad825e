-- A payload that was lent by itself.
use Prim.Native.Nat.{ℕ}
use mathlib.Core.List.{List}
use mathlib.Core.Path.{◌≡◌}
use borrow.Author.Rules.{rules}
use Rattle.format.specs.Reading.{Reader, verdict}
use Rattle.format.specs.Parts.{Part}
use Rattle.format.specs.Questions.{answered, as_place}
use Rattle.format.specs.Metadata.{judge_metadata, ask_metadata, ask_hint, hint_answered}
use Rattle.format.specs.Returned.{Answer}
use Rattle.format.specs.declared.CodeOffset.{CodeOffset}
use Rattle.format.specs.declared.FunctionIndex.{FunctionIndex}
use Rattle.format.specs.Returned.{HintAnswer}
use Rattle.reading.proofs.Laws.{left_all, over_inside}
use Rattle.reading.specs.Cursors.{over_all, left}
use Rattle.reading.specs.declared.Cursor.{Cursor}
use Rattle.format.specs.Verdicts.{verdict_of}
use Rattle.format.specs.Returned.{Verdict}

module _ (p : List ℕ) {c : Cursor} (over : c ≡ over_all p) where
  module _ (value : Reader Part) where
    pub whole_judged : (r : Verdict) → verdict_of r ≡ verdict (judge_metadata value c.at (left p c)) → verdict_of r ≡ verdict (judge_metadata value 0 p)
    whole_judged r e = rw (over, left_all p) at e

    pub whole_found : (f : FunctionIndex) (at : CodeOffset) (r : Answer) → answered r ≡ as_place (ask_metadata value f at c.at (left p c)) → answered r ≡ as_place (ask_metadata value f at 0 p)
    whole_found f at r e = rw (over, left_all p) at e

  pub whole_hint : (f : FunctionIndex) (at : CodeOffset) (r : HintAnswer) → hint_answered r ≡ ask_hint f at c.at (left p c) → hint_answered r ≡ ask_hint f at 0 p
  whole_hint f at r e = rw (over, left_all p) at e

pub ruleset wholes = (whole_judged, whole_found, whole_hint, over_inside, rules)
