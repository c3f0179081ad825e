-- Each promise of the crate `older` determines what comes back.
use Rattle.std.specs.Prelude.{ℕ, zero, suc, ◌≤◌, List, ◌≡◌, refl}
use Rattle.std.proofs.Common.{ap, arith}
use Rattle.format.proofs.Determined.{Determines1, Determines2, Determines3, Determines4, meaning_determined, hint_answer_determined}
use Rattle.format.specs.Laws.Refusals.{same_verdict}
use Rattle.format.specs.Older.{OlderHint, kind_numbered, kind_number}
use Rattle.older.specs.Again.{StandsHint}
use Rattle.older.specs.Promises.{OlderHintIn, OlderJudgeIn, OlderJudge, IsOlderHint, OlderHintHere, OlderFunctionHere}
use Rattle.older.specs.Seeking.{opening}
use Rattle.older.specs.declared.again.HintHere.{HintHere}
use Rattle.reading.proofs.Standing.{one_value, one_end}
use Rattle.reading.specs.Standing.{Stands}
use Rattle.reading.specs.declared.Cursor.{Cursor}
use Rattle.reading.specs.declared.again.Number.{Number}

-- a kind that is known is told by its hint
known_kind_lem : (k : ℕ) → k ≤ 1 → kind_number (kind_numbered k) ≡ k
known_kind_lem zero h = refl
known_kind_lem (suc k) h = omega arith

-- one hint alone stands there, and one function
hint_here_same : {s : List ℕ} {c : Cursor} (r r' : HintHere) → StandsHint s c r → StandsHint s c r' → r ≡ r'
hint_here_same r r' p q =
    let one = one_value p.stands q.stands in
    let number = ap (λ (h : OlderHint). kind_number h.kind) one in
    let kind : r.kind ≡ r'.kind = omega (arith, number, known_kind_lem r.kind p.known_kind_lem, known_kind_lem r'.kind q.known_kind_lem) in
    let offset = ap (λ (h : OlderHint). h.offset) one in
    let next = one_end p.stands q.stands in
    λ i. record { kind = kind i; offset = offset i; next = next i }

function_here_same : {s : List ℕ} {c : Cursor} (r r' : Number) → Stands opening s c r.value r.next → Stands opening s c r'.value r'.next → r ≡ r'
function_here_same r r' p q = let value = one_value p q in let next = one_end p q in λ i. record { value = value i; next = next i }

pub record Older : Type 0 where
  -- older
  older_hint_in : Determines4 OlderHintIn
  older_judge_in : Determines2 OlderJudgeIn
  older_judge : Determines1 OlderJudge
  older_hint : Determines3 IsOlderHint
  -- older::again
  older_hint_here : Determines2 OlderHintHere
  older_function_here : Determines2 OlderFunctionHere

pub determined : Older
determined =
    record {
      older_hint_in = λ s c f at. hint_answer_determined _;
      older_judge_in = λ s c. meaning_determined same_verdict _;
      older_judge = λ p. meaning_determined same_verdict _;
      older_hint = λ p f at. hint_answer_determined _;
      older_hint_here = λ c s. hint_here_same;
      older_function_here = λ c s. function_here_same;
    }
