-- What users demand of the calls, said of what they hand back.
use Rattle.std.specs.Prelude.{ℕ, List, ◌≡◌, Ok, Some}
use Rattle.format.proofs.Results.{CallAnswers, calls_answer, CallHints, hints_call}
use Rattle.format.specs.Canonical.{bare_items}
use Rattle.format.proofs.Theorems.{ItemQuestion, any_metadata_answered}
use Rattle.format.specs.Examples.{hex, digit}
use Rattle.format.specs.Holding.{HasWithin}
use Rattle.format.proofs.Laws.Answers.{same_answer}
use Rattle.format.specs.Metadata.{any_item, metadata, judge_metadata, item_at, ask_metadata, ask_hint, hint_answered}
use Rattle.format.specs.Numbers.{number, groups}
use Rattle.format.specs.Parts.{sized}
use Rattle.format.specs.Tables.{lookup, rows, table}
use Rattle.format.specs.Questions.{as_place, as_bytes, answered}
use Rattle.format.specs.Returned.{Answer}
use Rattle.format.specs.declared.CodeOffset.{CodeOffset}
use Rattle.format.specs.declared.FunctionIndex.{FunctionIndex}
use Rattle.format.specs.Returned.{HintAnswer}

-- Demand 2. "A lookup gives the mapped name as the very bytes of the section, or none exactly when the index has no name." So for the data at an offset of a function.
pub metadata_call : (f : FunctionIndex) (at : CodeOffset) (p : List ℕ) (r : Answer) (bytes : List ℕ) → answered r ≡ as_place (ask_metadata any_item f at 0 p) → bytes ≡ as_bytes (ask_metadata any_item f at 0 p) → CallAnswers {Q = ItemQuestion} (judge_metadata any_item 0) (λ t q x. HasWithin q.0.0 q.1.0 x (bare_items t)) (f, at) p r bytes
metadata_call f at = calls_answer any_metadata_answered (f, at)

-- "For hints it is none, likely, unlikely or a refusal."
pub hint_call : (f : FunctionIndex) (at : CodeOffset) (p : List ℕ) (r : HintAnswer) → hint_answered r ≡ ask_hint f at 0 p → CallHints f at p r
hint_call = hints_call

-- "offsets within one function strictly increase": two functions may have data at one offset.
pub each_function_anew : (r : Answer) → answered r ≡ as_place (ask_metadata any_item (record { 0 = 2 }) (record { 0 = 5 }) 0 (hex "02 00 01 05 01 41 02 01 05 01 42")) → r ≡ Ok (Some (record { offset = record { 0 = 10 }; length = 1 }))
unfolding hex digit number groups sized lookup rows table any_item metadata judge_metadata item_at ask_metadata as_place
each_function_anew r e = same_answer r (Ok (Some (record { offset = record { 0 = 10 }; length = 1 }))) e
