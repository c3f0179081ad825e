-- What a call does in the model, whole: the change that is made and the answer that is given go together.
use Rattle.std.specs.Prelude.{ℕ, zero, suc, ◌≤◌, ◌<◌, ◌≡◌, Bool, List, [], ◌∷◌, map, ◌≢◌, ltb, leb, length, get_or}
use Rattle.std.proofs.Math.Path.{refl}
use Rattle.std.proofs.Common.{sym, arith, ltb-true}
use Rattle.std.proofs.Math.Bool.{true, false}
use Rattle.std.proofs.Math.Option.{Option, none, some}
use Rattle.format.specs.Laws.Outcomes.{by_test}
use Rattle.format.specs.Reading.{accepted}
use Rattle.sharing.specs.Laws.Blocks.{no_false}
use Rattle.sharing.specs.Laws.Isolation.{not_some, first_true_is, first_true_first, front_go, map_length, get_d_in}
use Rattle.sharing.specs.Laws.Ledger.{first_vacant}
use Rattle.sharing.specs.Model.{Payloads, Call, opening, asking, closing, tidying, refusal, granted, nothing, found, closed, tidied, over, first_true, Front, stop, go, front, replied, reply, Entry, vacant, keep, put, Act, act, room_for, opened, asked, shut, acts}

-- the lowest hold that is not in use
pub record Lowest (own : List Entry) (h : ℕ) : Type 0 where
  pub low : h < 8
  pub free : get_or own h none ≡ none
  pub others : (k : ℕ) → k < h → get_or own k none ≢ none

pub data Does (P : Payloads) (own : List Entry) : Call → Act → Type 0 where
  refuses : {call : Call} {n at : ℕ} {buffer : List ℕ} → Does P own call (act keep (refusal n at buffer))
  grants : {c h : ℕ} {payload work q : List ℕ} → c < 16 → Lowest own h → P.canonical payload ≡ accepted q → Does P own (opening c payload work) (act (put h (some q)) (granted h (over q work)))
  says_nothing : {c hold index : ℕ} {out : List ℕ} → Does P own (asking c hold index out) (act keep (nothing out))
  shows : {c hold index : ℕ} {out p name : List ℕ} → c < 16 → hold < 8 → get_or own hold none ≡ some p → P.name p index ≡ some name → Does P own (asking c hold index out) (act keep (found (length name) (over name out)))
  shuts : {c hold : ℕ} {p : List ℕ} → c < 16 → hold < 8 → get_or own hold none ≡ some p → Does P own (closing c hold) (act (put hold none) closed)
  tidies : Does P own tidying (act keep tidied)

pub in_use : (l : List Entry) (k : ℕ) → get_or (map vacant l) k true ≡ false → get_or l k none ≢ none
unfolding vacant
in_use [] k e z = no_false e
in_use (none ∷ l) zero e z = no_false e
in_use (some p ∷ l) zero e z = not_some (sym z)
in_use (x ∷ l) (suc k) e z = in_use l k e z

pub lowest_of : (own : List Entry) → length own ≤ 8 → (h : ℕ) → first_true (map vacant own) ≡ some h → Lowest own h
lowest_of own few h e =
    let r = first_true_is (map vacant own) h e in
    record { low = omega (arith, r.0, map_length own); free = (first_vacant own h r.0 r.1).1; others = λ k b. in_use own k (first_true_first (map vacant own) h e k b) }

module _ (P : Payloads) (room : Bool) (own : List Entry) (few : length own ≤ 8) where
  open_does : (c : ℕ) (payload work : List ℕ) (f : Front) → ((q : List ℕ) (h : ℕ) → f ≡ go q h → (c < 16) × Lowest own h × (P.canonical payload ≡ accepted q)) → Does P own (opening c payload work) (opened room work f)
  unfolding opened room_for
  open_does c payload work (stop n at) k = refuses
  open_does c payload work (go q h) k = let r = k q h refl in with_room room r.0 r.1 r.2
    where
      with_room : (b : Bool) → c < 16 → Lowest own h → P.canonical payload ≡ accepted q → Does P own (opening c payload work) (room_for b q h work)
      with_room true i j e = grants i j e
      with_room false i j e = refuses

  module _ (c hold index : ℕ) (out : List ℕ) (there : c < 16) where
    reply_does : (p : List ℕ) → get_or own hold none ≡ some p → (o : Option (List ℕ)) → P.name p index ≡ o → Does P own (asking c hold index out) (act keep (replied o out))
    unfolding replied
    reply_does p e none i = says_nothing
    reply_does p e (some name) i = by_test (leb (length name) (length out))
        (λ t. rw t (shows {hold = hold} there (omega (arith, get_d_in own hold p e)) e i))
        (λ t. rw t refuses)

    asked_does : (x : Entry) → get_or own hold none ≡ x → Does P own (asking c hold index out) (asked P x index out)
    unfolding asked reply
    asked_does none e = refuses
    asked_does (some p) e = reply_does p e (P.name p index) refl

  shut_does : (c hold : ℕ) → c < 16 → (x : Entry) → get_or own hold none ≡ x → Does P own (closing c hold) (shut x hold)
  unfolding shut
  shut_does c hold there none e = refuses
  shut_does c hold there (some p) e = shuts {hold = hold} there (omega (arith, get_d_in own hold p e)) e

  pub does : (call : Call) → Does P own call (acts P room own call)
  unfolding acts
  does (opening c payload work) = open_does c payload work (front P c (first_true (map vacant own)) payload work)
      (λ q h e. let g = front_go P c (first_true (map vacant own)) payload work e in
      (g.someone, lowest_of own few h g.unused, g.taken))
  does (asking c hold index out) = by_test (ltb c 16) (λ t. rw t (asked_does c hold index out (ltb-true c 16 t) (get_or own hold none) refl)) (λ t. rw t refuses)
  does (closing c hold) = by_test (ltb c 16) (λ t. rw t (shut_does c hold (ltb-true c 16 t) (get_or own hold none) refl)) (λ t. rw t refuses)
  does tidying = tidies
