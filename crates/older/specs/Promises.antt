-- THE PROMISES of the crate `older`, each by the name of its function. They stand in the `ensures` of the public functions and nowhere else: what is shown of these names is shown of the functions. A promise relates what is lent to what comes back.
use Rattle.std.specs.Prelude.{ℕ, List, ◌≡◌}
use Rattle.format.specs.Metadata.{hint_answered}
use Rattle.format.specs.Older.{judge_older, ask_older}
use Rattle.format.specs.Reading.{verdict}
use Rattle.format.specs.Verdicts.{verdict_of}
use Rattle.format.specs.declared.FunctionIndex.{FunctionIndex}
use Rattle.format.specs.Returned.{HintAnswer}
use Rattle.format.specs.declared.InstructionOffset.{InstructionOffset}
use Rattle.format.specs.Returned.{Verdict}
use Rattle.reading.specs.Cursors.{left}
use Rattle.reading.specs.Standing.{Stands}
use Rattle.reading.specs.declared.Cursor.{Cursor}
use Rattle.reading.specs.declared.again.Number.{Number}
use Rattle.older.specs.Again.{StandsHint}
use Rattle.older.specs.Seeking.{opening}
use Rattle.older.specs.declared.again.HintHere.{HintHere}

-- older
abbrev pub OlderHintIn : (s : List ℕ) (c : Cursor) (f : FunctionIndex) (at : InstructionOffset) → HintAnswer → Type 0
OlderHintIn s c f at r = hint_answered r ≡ ask_older f at c.at (left s c)

abbrev pub OlderJudgeIn : (s : List ℕ) (c : Cursor) → Verdict → Type 0
OlderJudgeIn s c r = verdict_of r ≡ verdict (judge_older c.at (left s c))

abbrev pub OlderJudge : (p : List ℕ) → Verdict → Type 0
OlderJudge p r = verdict_of r ≡ verdict (judge_older 0 p)

abbrev pub IsOlderHint : (p : List ℕ) (f : FunctionIndex) (at : InstructionOffset) → HintAnswer → Type 0
IsOlderHint p f at r = hint_answered r ≡ ask_older f at 0 p

-- older::again
abbrev pub OlderHintHere : (c : Cursor) (s : List ℕ) → HintHere → Type 0
OlderHintHere c s r = StandsHint s c r

abbrev pub OlderFunctionHere : (c : Cursor) (s : List ℕ) → Number → Type 0
OlderFunctionHere c s r = Stands opening s c r.value r.next
