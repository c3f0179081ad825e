-- Rules R16.9 and R16.12 of docs/RULES.md.
-- Histories by their events, the latest first: each call with its answer as somebody sees it. `says` is what can be seen of it: whether the call was granted, and with which number, which of an open is the hold.
use Rattle.std.specs.Prelude.{ℕ, suc, ◌+◌, ◌*◌, ◌≤◌, ◌<◌, ◌≡◌, Bool, false, cond, ◌&&◌, List, [], ◌∷◌, eqb, length, get_or, take, drop}
use Rattle.std.proofs.Math.Option.{Option, none, some}
use Rattle.format.specs.Bytes.{same}
use Rattle.format.specs.Options.{is_some}
use Rattle.format.specs.Reading.{Judged, refused, accepted}
use Rattle.sharing.specs.Blocks.{need, right, scatter}
use Rattle.sharing.specs.Histories.{owns}
use Rattle.sharing.specs.Model.{Payloads, Call, opening, asking, closing, tidying, Answer, refusal, granted, nothing, found, closed, tidied}
use Rattle.sharing.specs.Step.{step}
use Rattle.sharing.specs.Table.{Table, blank, started, blocks}

pub record Event (A : Type 0) : Type 0 where
  pub call : Call
  pub answer : A

abbrev pub event : {A : Type 0} → Call → A → Event A
event call a = record { call = call; answer = a }

-- a table started over a store of 1 to 128 blocks, and calls, each on what the one before left
pub data Past (P : Payloads) {A : Type 0} (seen : Answer → A) : List (Event A) → Table → List ℕ → Type 0 where
  begun : {s : List ℕ} (n : ℕ) → length s ≡ n * 512 → 0 < n → n ≤ 128 → Past P seen [] (started (length s)) s
  called : {es : List (Event A)} {t : Table} {s : List ℕ} (call : Call) → Past P seen es t s → Past P seen (event call (seen (step P t s call).answer) ∷ es) (step P t s call).table (step P t s call).store

-- calls from a table and a store on, each on what the one before left
pub data Onward (P : Payloads) {A : Type 0} (seen : Answer → A) (t : Table) (s : List ℕ) : List (Event A) → Table → List ℕ → Type 0 where
  nothing_yet : Onward P seen t s [] t s
  once_more : {es : List (Event A)} {u : Table} {r : List ℕ} (call : Call) → Onward P seen t s es u r → Onward P seen t s (event call (seen (step P u r call).answer) ∷ es) (step P u r call).table (step P u r call).store

-- A payload stands in the store from a block on: the table counts users there and knows its length, and these blocks are the payload's
pub record Stored (t : Table) (s : List ℕ) (block : ℕ) (p : List ℕ) : Type 0 where
  pub used : 0 < (get_or t.marks block blank).users
  pub size : (get_or t.marks block blank).size ≡ length p
  pub holds : take (need (length p)) (drop block (blocks s)) ≡ scatter p

-- so many blocks in a row, from a first one on, in none of which a payload stands
pub record FreeRun (t : Table) (s : List ℕ) (first n : ℕ) : Type 0 where
  pub inside : first + n ≤ length (blocks s)
  pub free : (i : ℕ) → first ≤ i → i < first + n → (block : ℕ) (p : List ℕ) → Stored t s block p → block ≤ i → i < block + need (length p) → ⊥

-- a block of a payload that the table has users of is not there, or its check is wrong
pub record Damage (t : Table) (s : List ℕ) : Type 0 where
  pub first : ℕ
  pub further : ℕ
  pub stands : first < length (blocks s)
  pub used : 0 < (get_or t.marks first blank).users
  pub has : further < need (get_or t.marks first blank).size
  pub wrong : right (get_or (blocks s) (first + further) []) ≡ false

-- how many of the blocks before one payloads stand in
pub data UsedBefore (t : Table) (s : List ℕ) : (block used : ℕ) → Type 0 where
  none_before : UsedBefore t s 0 0
  one_used : {block used : ℕ} (first : ℕ) (p : List ℕ) → Stored t s first p → first ≤ block → block < first + need (length p) → UsedBefore t s block used → UsedBefore t s (suc block) (suc used)
  one_free : {block used : ℕ} → FreeRun t s block 1 → UsedBefore t s block used → UsedBefore t s (suc block) used

-- one of the events is the step of K13, and none behind it is a close
pub data SinceStep {A : Type 0} : List (Event A) → Type 0 where
  just_now : {es : List (Event A)} {a : A} → SinceStep (event tidying a ∷ es)
  and_asked : {es : List (Event A)} {a : A} {c hold index : ℕ} {out : List ℕ} → SinceStep es → SinceStep (event (asking c hold index out) a ∷ es)
  and_opened : {es : List (Event A)} {a : A} {c : ℕ} {payload work : List ℕ} → SinceStep es → SinceStep (event (opening c payload work) a ∷ es)

-- none of a list is so
pub data Never {A : Type 0} (So : A → Type 0) : List A → Type 0 where
  never : Never So []
  nor : {a : A} {l : List A} → (So a → ⊥) → Never So l → Never So (a ∷ l)

unfoldable pub yes : Answer → Option ℕ
yes (refusal n at buffer) = none
yes (granted hold work) = some hold
yes (nothing out) = none
yes (found size out) = some size
yes closed = some 0
yes tidied = some 0

-- One event

unfoldable pub is_hold : ℕ → Option ℕ → Bool
is_hold h none = false
is_hold h (some k) = eqb h k

-- what the customer's hold was opened with, once a call was answered so
unfoldable pub turned : (customer hold : ℕ) → Call → Option ℕ → Option (List ℕ) → Option (List ℕ)
turned c h (opening d payload work) a was = cond (eqb c d && is_hold h a) (some payload) was
turned c h (asking d hold index out) a was = was
turned c h (closing d hold) a was = cond (eqb c d && (eqb h hold && is_some a)) none was
turned c h tidying a was = was

unfoldable pub if_granted : Option ℕ → ℕ → ℕ
if_granted none n = 0
if_granted (some k) n = n

unfoldable pub is_form : List ℕ → Judged (List ℕ) → ℕ
is_form p (refused n at) = 0
is_form p (accepted q) = cond (same q p) 1 0

-- 1 where the canonical form of what was opened is p
unfoldable pub has_form : Payloads → List ℕ → Option (List ℕ) → ℕ
has_form P p none = 0
has_form P p (some payload) = is_form p (P.canonical payload)

unfoldable pub opens_one : Payloads → List ℕ → Call → Option ℕ → ℕ
opens_one P p (opening c payload work) a = if_granted a (has_form P p (some payload))
opens_one P p (asking c hold index out) a = 0
opens_one P p (closing c hold) a = 0
opens_one P p tidying a = 0

unfoldable pub closes_one : Payloads → List ℕ → (was : ℕ → ℕ → Option (List ℕ)) → Call → Option ℕ → ℕ
closes_one P p was (opening c payload work) a = 0
closes_one P p was (asking c hold index out) a = 0
closes_one P p was (closing c hold) a = if_granted a (has_form P p (was c hold))
closes_one P p was tidying a = 0

-- All events

module _ {A : Type 0} where
  -- the calls of one customer, and the answers to them
  unfoldable pub calls_of : ℕ → List (Event A) → List Call
  calls_of c [] = []
  calls_of c (e ∷ es) = cond (owns c e.call) (e.call ∷ calls_of c es) (calls_of c es)

  unfoldable pub answers_to : ℕ → List (Event A) → List A
  answers_to c [] = []
  answers_to c (e ∷ es) = cond (owns c e.call) (e.answer ∷ answers_to c es) (answers_to c es)

module _ {A : Type 0} (says : A → Option ℕ) where
  -- what the customer's hold was opened with: the payload of the last open that was granted with this hold, and none if it is closed since
  unfoldable pub opened_with : (customer hold : ℕ) → List (Event A) → Option (List ℕ)
  opened_with c h [] = none
  opened_with c h (e ∷ es) = turned c h e.call (says e.answer) (opened_with c h es)

  -- the granted opens of payloads whose canonical form is p, and the granted closes of holds that were opened with one
  unfoldable pub opens : Payloads → List ℕ → List (Event A) → ℕ
  opens P p [] = 0
  opens P p (e ∷ es) = opens_one P p e.call (says e.answer) + opens P p es

  unfoldable pub closes : Payloads → List ℕ → List (Event A) → ℕ
  closes P p [] = 0
  closes P p (e ∷ es) = closes_one P p (λ c h. opened_with c h es) e.call (says e.answer) + closes P p es
