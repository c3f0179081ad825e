-- Rule R21.4 of docs/RULES.md.
-- A promise determines what comes back: two results that meet it are equal. What comes back of a call with an output is its answer and the output's bytes after it, and of one with lists all of them; of a call that hands back a part of what was lent, the part's bytes and where in memory they begin.
use Rattle.std.specs.Prelude.{ℕ, List, ◌≡◌}
use Rattle.std.proofs.Math.Option.{Option}
use Rattle.std.proofs.Common.{sym, ◌∙◌}
use Rattle.format.specs.Reading.{Judged}
use Rattle.format.specs.Questions.{answered}
use Rattle.format.specs.Metadata.{hint_answered}
use Rattle.format.specs.Outputs.{Writes}
use Rattle.format.specs.Markers.{Markers, Makes}
use Rattle.format.specs.Entries.{Listed, Lists}
use Rattle.format.specs.Pairs.{Paired, Supplied, pair_answered}
use Rattle.format.specs.Joined.{JoinWrites}
use Rattle.format.proofs.Laws.Answers.{same_answer, same_hint_answer}
use Rattle.format.specs.Laws.Outputs.{writes_same}
use Rattle.format.proofs.Laws.Entries.{lists_same}
use Rattle.format.specs.Laws.PairAnswers.{same_pair_answer, joins_same}
use Rattle.format.specs.Returned.{Answer}
use Rattle.format.specs.declared.Hint.{Hint}
use Rattle.format.specs.Returned.{JoinWritten}
use Rattle.format.specs.declared.Place.{Place}
use Rattle.format.specs.Returned.{Written}

abbrev pub Determines : {Result : Type 0} → (Result → Type 0) → Type 0
Determines {Result} promise = (a b : Result) → promise a → promise b → a ≡ b

-- Of a promise by its name, whatever is lent: `Determines3` is for one that relates three things to the result
abbrev pub Determines1 : {A Result : Type 0} → (A → Result → Type 0) → Type 0
Determines1 {A} promise = (a : A) → Determines (promise a)

abbrev pub Determines2 : {A B Result : Type 0} → (A → B → Result → Type 0) → Type 0
Determines2 {A} promise = (a : A) → Determines1 (promise a)

abbrev pub Determines3 : {A B C Result : Type 0} → (A → B → C → Result → Type 0) → Type 0
Determines3 {A} promise = (a : A) → Determines2 (promise a)

abbrev pub Determines4 : {A B C D Result : Type 0} → (A → B → C → D → Result → Type 0) → Type 0
Determines4 {A} promise = (a : A) → Determines3 (promise a)

abbrev pub Determines5 : {A B C D E Result : Type 0} → (A → B → C → D → E → Result → Type 0) → Type 0
Determines5 {A} promise = (a : A) → Determines4 (promise a)

-- And where two things come back, the answer last: before it stands the output after the call, or all lists after it, or where in memory the answer's bytes begin
abbrev pub DeterminesBoth : {Other Result : Type 0} → (Other → Result → Type 0) → Type 0
DeterminesBoth {Other} {Result} promise = Determines (λ (back : Result × Other). promise back.1 back.0)

abbrev pub DeterminesBoth1 : {A Other Result : Type 0} → (A → Other → Result → Type 0) → Type 0
DeterminesBoth1 {A} promise = (a : A) → DeterminesBoth (promise a)

abbrev pub DeterminesBoth2 : {A B Other Result : Type 0} → (A → B → Other → Result → Type 0) → Type 0
DeterminesBoth2 {A} promise = (a : A) → DeterminesBoth1 (promise a)

abbrev pub DeterminesBoth3 : {A B C Other Result : Type 0} → (A → B → C → Other → Result → Type 0) → Type 0
DeterminesBoth3 {A} promise = (a : A) → DeterminesBoth2 (promise a)

abbrev pub DeterminesBoth4 : {A B C D Other Result : Type 0} → (A → B → C → D → Other → Result → Type 0) → Type 0
DeterminesBoth4 {A} promise = (a : A) → DeterminesBoth3 (promise a)

abbrev pub DeterminesBoth5 : {A B C D E Other Result : Type 0} → (A → B → C → D → E → Other → Result → Type 0) → Type 0
DeterminesBoth5 {A} promise = (a : A) → DeterminesBoth4 (promise a)

abbrev pub DeterminesBoth6 : {A B C D E F Other Result : Type 0} → (A → B → C → D → E → F → Other → Result → Type 0) → Type 0
DeterminesBoth6 {A} promise = (a : A) → DeterminesBoth5 (promise a)

-- And where three things come back: two lists after the call, and the answer last
abbrev pub DeterminesThree : {Other Another Result : Type 0} → (Other → Another → Result → Type 0) → Type 0
DeterminesThree {Other} {Another} {Result} promise = Determines (λ (back : Result × Other × Another). promise back.1 back.2 back.0)

abbrev pub DeterminesThree1 : {A Other Another Result : Type 0} → (A → Other → Another → Result → Type 0) → Type 0
DeterminesThree1 {A} promise = (a : A) → DeterminesThree (promise a)

abbrev pub DeterminesThree2 : {A B Other Another Result : Type 0} → (A → B → Other → Another → Result → Type 0) → Type 0
DeterminesThree2 {A} promise = (a : A) → DeterminesThree1 (promise a)

abbrev pub DeterminesThree3 : {A B C Other Another Result : Type 0} → (A → B → C → Other → Another → Result → Type 0) → Type 0
DeterminesThree3 {A} promise = (a : A) → DeterminesThree2 (promise a)

-- bytes, and where in memory they begin
abbrev pub Handed : Type 0
Handed = List ℕ × (ℕ × ℕ)

-- THE LAWS

module _ {Result : Type 0} where
  -- a promise that the result is equal to something
  pub equal_determined : (t : Result) → Determines (λ r. r ≡ t)
  equal_determined t a b p q = p ∙ sym q

  -- and one that what the result means is, where different results mean different things
  pub meaning_determined : {Meaning : Type 0} {meaning : Result → Meaning} → ((a b : Result) → meaning a ≡ meaning b → a ≡ b) → (t : Meaning) → Determines (λ r. meaning r ≡ t)
  meaning_determined told_apart t a b p q = told_apart a b (p ∙ sym q)

  -- what is promised beside it takes nothing away
  pub also_determined : {promise : Result → Type 0} (beside : Result → Type 0) → Determines promise → Determines (λ r. promise r × beside r)
  also_determined beside determined a b p q = determined a b p.0 q.0

pub answer_determined : (j : Judged (Option Place)) → Determines (λ r. answered r ≡ j)
answer_determined j = meaning_determined same_answer j

pub hint_answer_determined : (j : Judged (Option Hint)) → Determines (λ r. hint_answered r ≡ j)
hint_answer_determined j = meaning_determined same_hint_answer j

pub part_determined : (bytes : List ℕ) (begins : ℕ × ℕ) → Determines (λ (r : Handed). (r.0 ≡ bytes) × (r.1 ≡ begins))
part_determined bytes begins a b p q = let one = p.0 ∙ sym q.0 in let other = p.1 ∙ sym q.1 in λ i. (one i, other i)

pub writes_determined : (wanted : Judged (List ℕ)) (old : List ℕ) → Determines (λ (r : Written × List ℕ). Writes wanted old r.1 r.0)
writes_determined wanted old a b p q = let one = writes_same p q in λ i. (one.0 i, one.1 i)

pub makes_determined : (wanted : Judged Markers) (is os : List ℕ) → Determines (λ (r : Answer × List ℕ × List ℕ). Makes wanted is os r.1 r.2 r.0)
makes_determined wanted is os a b p q =
    let one = same_answer a.0 b.0 (p.says ∙ sym q.says) in
    let two = p.indices ∙ sym q.indices in
    let three = p.offsets ∙ sym q.offsets in
    λ i. (one i, two i, three i)

-- every entry in one pass: the answer, and all lists after the call
pub lists_determined : {X : Type 0} (columns : List (Listed X → ℕ)) (found : Judged (Option (List (Listed X)))) (lists : List (List ℕ)) → Determines (λ (r : Answer × List (List ℕ)). Lists columns found lists r.1 r.0)
lists_determined columns found lists a b p q = let one = lists_same p q in λ i. (one.0 i, one.1 i)

-- K3: of two payloads, and of their join
pub pair_answer_determined : (j : Paired (Option (Supplied Place))) → Determines (λ r. pair_answered r ≡ j)
pair_answer_determined j = meaning_determined same_pair_answer j

pub joins_determined : (wanted : Paired (Judged (List ℕ))) (old : List ℕ) → Determines (λ (r : JoinWritten × List ℕ). JoinWrites wanted old r.1 r.0)
joins_determined wanted old a b p q = let one = joins_same p q in λ i. (one.0 i, one.1 i)
