-- Rules R16.1, R16.4, R16.7, R16.11 and R16.13 of docs/RULES.md.
-- The model: no blocks and no table. Sixteen customers with eight holds each, in one list of 128; a hold is empty or has a payload. What a customer's call answers, and what it changes, follows from that customer's own eight holds.
use Rattle.std.specs.Prelude.{ℕ, suc, ◌+◌, ◌*◌, ◌≡◌, Bool, true, false, cond, List, [], ◌∷◌, ◌++◌, map, ltb, leb, length, get_or, set, take, drop}
use Rattle.std.proofs.Math.Option.{Option, none, some}
use Rattle.format.specs.Refusals.{number_of}
use Rattle.format.specs.Reading.{Judged, refused, accepted}
use Rattle.format.specs.declared.Reason.TheVariants.{OutputTooShort, NoCustomer, NotOpen, HoldsInUse, NoRoom}

-- What the table asks of payloads: the canonical form or the refusal, the name asked for, and that a canonical form is accepted
pub record Payloads : Type 0 where
  pub canonical : List ℕ → Judged (List ℕ)
  pub name : List ℕ → ℕ → Option (List ℕ)
  pub again : (p q : List ℕ) → canonical p ≡ accepted q → (r : List ℕ) × (canonical q ≡ accepted r)

pub data Call : Type 0 where
  opening : (customer : ℕ) (payload work : List ℕ) → Call
  asking : (customer hold index : ℕ) (out : List ℕ) → Call
  closing : (customer hold : ℕ) → Call
  tidying : Call

-- The answer, with the lent buffer after the call
pub data Answer : Type 0 where
  refusal : (number at : ℕ) (buffer : List ℕ) → Answer
  granted : (hold : ℕ) (work : List ℕ) → Answer
  nothing : (out : List ℕ) → Answer
  found : (size : ℕ) (out : List ℕ) → Answer
  closed : Answer
  tidied : Answer

-- a buffer that begins with these bytes, its other bytes as they were
unfoldable pub over : List ℕ → List ℕ → List ℕ
over p buffer = p ++ drop (length p) buffer

-- Holds, of any kind of entry

-- the eight entries of a customer
unfoldable pub desk : {A : Type 0} → ℕ → List A → List A
desk c l = take 8 (drop (c * 8) l)

unfoldable pub after : Option ℕ → Option ℕ
after none = none
after (some n) = some (suc n)

-- the first place where the test is true
unfoldable pub first_true : List Bool → Option ℕ
first_true [] = none
first_true (true ∷ l) = some 0
first_true (false ∷ l) = after (first_true l)

-- Before the store is looked at

pub data Front : Type 0 where
  stop : (number at : ℕ) → Front
  go : (payload : List ℕ) (hold : ℕ) → Front

-- 25 where no hold is unused
unfoldable pub with_hold : List ℕ → Option ℕ → Front
with_hold q none = stop (number_of HoldsInUse) 0
with_hold q (some h) = go q h

-- 13 for the work buffer comes before 25
unfoldable pub with_work : Judged (List ℕ) → Option ℕ → List ℕ → Front
with_work (refused n at) free work = stop n at
with_work (accepted q) free work = cond (leb (length q) (length work)) (with_hold q free) (stop (number_of OutputTooShort) (length q))

-- 23, the payload's own, 13, 25
unfoldable pub front : Payloads → (customer : ℕ) → (free : Option ℕ) → (payload work : List ℕ) → Front
front P c free payload work = cond (ltb c 16) (with_work (P.canonical payload) free work) (stop (number_of NoCustomer) 0)

-- the answer to a question from the payload
unfoldable pub replied : Option (List ℕ) → List ℕ → Answer
replied none out = nothing out
replied (some n) out = cond (leb (length n) (length out)) (found (length n) (over n out)) (refusal (number_of OutputTooShort) (length n) out)

unfoldable pub reply : Payloads → List ℕ → ℕ → List ℕ → Answer
reply P p index out = replied (P.name p index) out

-- The model's steps

abbrev pub Entry : Type 0
Entry = Option (List ℕ)

abbrev pub Model : Type 0
Model = List Entry

unfoldable pub vacant : Entry → Bool
vacant none = true
vacant (some p) = false

pub data Change : Type 0 where
  keep : Change
  put : (hold : ℕ) (entry : Entry) → Change

pub record Act : Type 0 where
  pub change : Change
  pub answer : Answer

abbrev pub act : Change → Answer → Act
act c a = record { change = c; answer = a }

-- `room`: the store has room for the payload, if it is not stored yet
unfoldable pub room_for : Bool → List ℕ → ℕ → List ℕ → Act
room_for true q h work = act (put h (some q)) (granted h (over q work))
room_for false q h work = act keep (refusal (number_of NoRoom) 0 (over q work))

unfoldable pub opened : Bool → List ℕ → Front → Act
opened room work (stop n at) = act keep (refusal n at work)
opened room work (go q h) = room_for room q h work

unfoldable pub asked : Payloads → Entry → ℕ → List ℕ → Act
asked P none index out = act keep (refusal (number_of NotOpen) 0 out)
asked P (some p) index out = act keep (reply P p index out)

unfoldable pub shut : Entry → ℕ → Act
shut none hold = act keep (refusal (number_of NotOpen) 0 [])
shut (some p) hold = act (put hold none) closed

-- what a customer's call does, from their own holds
unfoldable pub acts : Payloads → Bool → List Entry → Call → Act
acts P room own (opening c payload work) = opened room work (front P c (first_true (map vacant own)) payload work)
acts P room own (asking c hold index out) = cond (ltb c 16) (asked P (get_or own hold none) index out) (act keep (refusal (number_of NoCustomer) 0 out))
acts P room own (closing c hold) = cond (ltb c 16) (shut (get_or own hold none) hold) (act keep (refusal (number_of NoCustomer) 0 []))
acts P room own tidying = act keep tidied

unfoldable pub customer : Call → ℕ
customer (opening c payload work) = c
customer (asking c hold index out) = c
customer (closing c hold) = c
customer tidying = 16

unfoldable pub changed : ℕ → Change → Model → Model
changed c keep m = m
changed c (put h e) m = set m (c * 8 + h) e

unfoldable pub acting : Payloads → Bool → Model → Call → Act
acting P room m call = acts P room (desk (customer call) m) call

unfoldable pub next : Payloads → Bool → Model → Call → Model
next P room m call = changed (customer call) (acting P room m call).change m
