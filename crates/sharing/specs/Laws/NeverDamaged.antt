-- Nothing above 26 is given on a table and a store that stand for a model: neither 27 nor 30.
use Rattle.std.specs.Prelude.{ℕ, ◌<◌, ◌≡◌, refl, Bool, cond, List, map, ◌≢◌, ltb, leb, length, get_or}
use Rattle.std.proofs.Common.{sym, ap, ◌∙◌}
use Rattle.std.proofs.Math.Bool.{true, false}
use Rattle.std.proofs.Math.Option.{Option, none, some}
use native.Mathlib.Omega.{arith}
use Rattle.format.specs.Reading.{Judged, refused, accepted}
use Rattle.sharing.specs.Model.{Payloads, Call, opening, asking, closing, tidying, Answer, refusal, granted, closed, tidied, nothing, found, desk, first_true, Front, stop, go, with_hold, with_work, front, replied, reply, Entry, Model, vacant, Act, room_for, opened, asked, shut, acts, customer, acting}
use Rattle.sharing.specs.Table.{Table}
use Rattle.sharing.specs.Step.{step}
use Rattle.sharing.specs.Laws.Standing.{Stands}
use Rattle.sharing.specs.Laws.Histories.{refines}

-- the number of a refusal; 0 otherwise
abbrev pub number : Answer → ℕ
number (refusal n at buffer) = n
number (granted hold work) = 0
number (nothing out) = 0
number (found size out) = 0
number closed = 0
number tidied = 0

abbrev number_in : Front → ℕ
number_in (stop n at) = n
number_in (go q h) = 0

-- payloads have refusals of their own, and this is none of them
module _ (P : Payloads) (k : ℕ) (high : 26 < k) (own : (p : List ℕ) (n at : ℕ) → P.canonical p ≡ refused n at → n ≢ k) where
  by_cond : {A : Type 0} (f : A → ℕ) (b : Bool) (x y : A) → f x ≢ k → f y ≢ k → f (cond b x y) ≢ k
  by_cond f true x y h i = h
  by_cond f false x y h i = i

  hold_not : (q : List ℕ) (o : Option ℕ) → number_in (with_hold q o) ≢ k
  unfolding with_hold
  hold_not q none = λ e. omega arith
  hold_not q (some h) = λ e. omega arith

  work_not : (p : List ℕ) (j : Judged (List ℕ)) (o : Option ℕ) (work : List ℕ) → P.canonical p ≡ j → number_in (with_work j o work) ≢ k
  unfolding with_work
  work_not p (refused n at) o work e = own p n at e
  work_not p (accepted q) o work e = by_cond number_in (leb (length q) (length work)) _ _ (hold_not q o) (λ z. omega arith)

  front_not : (c : ℕ) (o : Option ℕ) (payload work : List ℕ) → number_in (front P c o payload work) ≢ k
  unfolding front
  front_not c o payload work = by_cond number_in (ltb c 16) _ _ (work_not payload (P.canonical payload) o work refl) (λ z. omega arith)

  opened_not : (room : Bool) (work : List ℕ) (f : Front) → number_in f ≢ k → number (opened room work f).answer ≢ k
  unfolding opened room_for
  opened_not room work (stop n at) h = h
  opened_not true work (go q i) h = λ z. omega arith
  opened_not false work (go q i) h = λ z. omega arith

  replied_not : (o : Option (List ℕ)) (out : List ℕ) → number (replied o out) ≢ k
  unfolding replied
  replied_not none out = λ z. omega arith
  replied_not (some n) out = by_cond number (leb (length n) (length out)) _ _ (λ z. omega arith) (λ z. omega arith)

  asked_not : (x : Entry) (index : ℕ) (out : List ℕ) → number (asked P x index out).answer ≢ k
  unfolding asked reply
  asked_not none index out = λ z. omega arith
  asked_not (some p) index out = replied_not (P.name p index) out

  shut_not : (x : Entry) (h : ℕ) → number (shut x h).answer ≢ k
  unfolding shut
  shut_not none h = λ z. omega arith
  shut_not (some p) h = λ z. omega arith

  model_not : (room : Bool) (m : Model) (call : Call) → number (acting P room m call).answer ≢ k
  unfolding acting acts customer
  model_not room m (opening c payload work) = opened_not room work _ (front_not c (first_true (map vacant (desk c m))) payload work)
  model_not room m (asking c hold index out) = by_cond (λ (a : Act). number a.answer) (ltb c 16) _ _ (asked_not (get_or (desk c m) hold none) index out) (λ z. omega arith)
  model_not room m (closing c hold) = by_cond (λ (a : Act). number a.answer) (ltb c 16) _ _ (shut_not (get_or (desk c m) hold none) hold) (λ z. omega arith)
  model_not room m tidying = λ z. omega arith

  pub never_above : (t : Table) (s : List ℕ) (m : Model) → Stands P t s m → (call : Call) → number (step P t s call).answer ≢ k
  never_above t s m st call e = let x = refines P t s m st call in model_not x.room m call (sym (ap number x.answers) ∙ e)
