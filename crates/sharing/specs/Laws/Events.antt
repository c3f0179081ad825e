-- After every history: what each hold leads to is what it was opened with, and a payload's users are its granted opens less its granted closes.
use Rattle.std.specs.Prelude.{ℕ, zero, suc, ◌+◌, ◌*◌, ◌<◌, ◌≡◌, Bool, true, false, cond, ◌&&◌, ◌≢◌, length, get_or, set, drop, replicate}
use Rattle.std.proofs.Math.Path.{refl, ap}
use Rattle.std.proofs.Common.{sym, ◌∙◌, arith, get_or-take, get_or-drop, get_or-set_same, get_or-set_other, eqb-true, eq-eqb}
use mathlib.Core.List.{List, ◌∷◌}
use Rattle.std.proofs.Math.Option.{Option, none, some}
use Rattle.std.proofs.Math.Dec.{eqb}
use Rattle.std.proofs.Math.ListN.{length-replicate, length-set}
use Rattle.format.specs.Laws.Outcomes.{by_test, on_both, and_false, and_true}
use Rattle.format.specs.Reading.{Judged, refused, accepted}
use Rattle.sharing.specs.Events.{Event, event, Past, begun, called, yes, is_hold, turned, if_granted, is_form, has_form, opens_one, closes_one, opened_with, opens, closes}
use Rattle.sharing.specs.Laws.Blocks.{no_false}
use Rattle.sharing.specs.Laws.Doing.{Does, does, refuses, grants, says_nothing, shows, shuts, tidies}
use Rattle.sharing.specs.Laws.Histories.{refines, starts, nobody}
use Rattle.sharing.specs.Laws.Isolation.{desk_length, not_some}
use Rattle.sharing.specs.Laws.Ledger.{opens_by, closes_by, one_turn}
use Rattle.sharing.specs.Laws.Standing.{Stands}
use Rattle.sharing.specs.Laws.Users.{has, users_of, no_users}
use Rattle.sharing.specs.Model.{Payloads, Call, opening, asking, closing, tidying, Answer, desk, Entry, Model, Change, keep, put, Act, customer, changed, acting, next}
use Rattle.sharing.specs.Step.{step}
use Rattle.sharing.specs.Table.{Table}

-- the entry of a hold, by what it was opened with
unfoldable pub form_of : Judged (List ℕ) → Entry
form_of (refused n at) = none
form_of (accepted q) = some q

unfoldable pub entry_of : Payloads → Option (List ℕ) → Entry
entry_of P none = none
entry_of P (some payload) = form_of (P.canonical payload)

pub desk_at : (c h : ℕ) (m : Model) → h < 8 → get_or (desk c m) h none ≡ get_or m (c * 8 + h) none
unfolding desk
desk_at c h m b = get_or-take 8 (drop (c * 8) m) h none b ∙ get_or-drop (c * 8) m h none

-- only a hold that there is was opened, and only with a payload that is accepted
pub record Opened (P : Payloads) (c h : ℕ) (was : Option (List ℕ)) : Type 0 where
  pub fine : (payload : List ℕ) → was ≡ some payload → (c < 16) × (h < 8) × (q : List ℕ) × (P.canonical payload ≡ accepted q)

-- One event, on a model of 128 holds

other_place : (c d h k : ℕ) → h < 8 → k < 8 → (eqb c d && eqb h k) ≡ false → c * 8 + h ≢ d * 8 + k
other_place c d h k i j t e =
    let x : c ≡ d = omega arith in
    let y : h ≡ k = omega arith in
    no_false (rw (eq-eqb c d x, eq-eqb h k y) at t)

turned_not : (c h : ℕ) (call : Call) (was : Option (List ℕ)) → turned c h call none was ≡ was
unfolding turned is_hold
turned_not c h (opening d payload work) was = rw (and_false (eqb c d))
turned_not c h (asking d hold index out) was = refl
turned_not c h (closing d hold) was = rw (and_false (eqb h hold), and_false (eqb c d))
turned_not c h tidying was = refl

module _ (P : Payloads) (m : Model) (all : length m ≡ 128) where
  put_at : (c h d k : ℕ) → c < 16 → h < 8 → k < 8 → (b : Bool) → (eqb c d && eqb h k) ≡ b → (was new : Option (List ℕ)) → get_or m (c * 8 + h) none ≡ entry_of P was → get_or (set m (d * 8 + k) (entry_of P new)) (c * 8 + h) none ≡ entry_of P (cond b new was)
  put_at c h d k i j l true t was new e = on_both (eqb c d) (eqb h k) t λ x y.
      let v = eqb-true c d x in
      let w = eqb-true h k y in
      rw (v, w) (get_or-set_same m (d * 8 + k) (entry_of P new) none (omega arith))
  put_at c h d k i j l false t was new e = get_or-set_other m (d * 8 + k) (c * 8 + h) (entry_of P new) none (other_place c d h k j l t) ∙ e

  turned_is : (c h : ℕ) → c < 16 → h < 8 → (was : Option (List ℕ)) → get_or m (c * 8 + h) none ≡ entry_of P was → {call : Call} {x : Act} → Does P (desk (customer call) m) call x → get_or (changed (customer call) x.change m) (c * 8 + h) none ≡ entry_of P (turned c h call (yes x.answer) was)
  unfolding changed customer yes turned is_hold entry_of
  turned_is c h i j was e {call} refuses = e ∙ ap (entry_of P) (sym (turned_not c h call was))
  turned_is c h i j was e (grants {c = d} {h = k} {payload = payload} {q = q} there low is) =
      let z : entry_of P (some payload) ≡ some q = unfold entry_of form_of in rw is in
      rw (← z) (put_at c h d k i j low.low (eqb c d && eqb h k) refl was (some payload) e)
  turned_is c h i j was e says_nothing = e
  turned_is c h i j was e (shows there low is name) = e
  turned_is c h i j was e (shuts {c = d} {hold = k} there low is) =
      rw (and_true (eqb h k)) (put_at c h d k i j low (eqb c d && eqb h k) refl was none e)
  turned_is c h i j was e tidies = e

  turned_fine : (c h : ℕ) (was : Option (List ℕ)) → Opened P c h was → {call : Call} {x : Act} → Does P (desk (customer call) m) call x → Opened P c h (turned c h call (yes x.answer) was)
  unfolding yes turned is_hold
  turned_fine c h was o {call} refuses = rw (turned_not c h call was) o
  turned_fine c h was o (grants {c = d} {h = k} there low is) = by_test (eqb c d && eqb h k)
      (λ t. rw t (record { fine = λ p e. on_both (eqb c d) (eqb h k) t λ x y. (rw (eqb-true c d x) there, rw (eqb-true h k y) low.low, _, is_it is e) }))
      (λ t. rw t o)
    where
      is_it : {payload p q : List ℕ} → P.canonical payload ≡ accepted q → some payload ≡ some p → P.canonical p ≡ accepted q
      is_it {payload} {p} is e = let z : payload ≡ p = cc in rw (← z) is
  turned_fine c h was o says_nothing = o
  turned_fine c h was o (shows there low is name) = o
  turned_fine c h was o (shuts {c = d} {hold = k} there low is) = by_test (eqb c d && (eqb h k && true)) (λ t. rw t (record { fine = λ p e. absurd (not_some e) })) (λ t. rw t o)
  turned_fine c h was o tidies = o

  all_left : (c : ℕ) (x : Change) → length (changed c x m) ≡ 128
  unfolding changed
  all_left c keep = all
  all_left c (put h e) = length-set m (c * 8 + h) e ∙ all

-- the model's opens and closes are the event's
has_form_lem : (P : Payloads) (p : List ℕ) (o : Option (List ℕ)) → has p (entry_of P o) ≡ has_form P p o
unfolding entry_of form_of has_form is_form has
has_form_lem P p none = refl
has_form_lem P p (some payload) = by_form (P.canonical payload)
  where
    by_form : (j : Judged (List ℕ)) → has p (form_of j) ≡ is_form p j
    by_form (refused n at) = refl
    by_form (accepted q) = refl

module _ (P : Payloads) (p : List ℕ) (m : Model) where
  opens_is : {call : Call} {x : Act} → Does P (desk (customer call) m) call x → opens_by p x.change ≡ opens_one P p call (yes x.answer)
  unfolding opens_by opens_one yes if_granted
  opens_is {call} refuses = none_opened call
    where
      none_opened : (call : Call) → 0 ≡ opens_one P p call none
      none_opened (opening c payload work) = refl
      none_opened (asking c hold index out) = refl
      none_opened (closing c hold) = refl
      none_opened tidying = refl
  opens_is (grants {payload = payload} {q = q} there low is) =
      let z : entry_of P (some payload) ≡ some q = unfold entry_of form_of in rw is in
      ap (has p) (sym z) ∙ has_form_lem P p (some payload)
  opens_is says_nothing = refl
  opens_is (shows there low is name) = refl
  opens_is (shuts there low is) = refl
  opens_is tidies = refl

  closes_is : (was : ℕ → ℕ → Option (List ℕ)) → ((c h : ℕ) → c < 16 → h < 8 → get_or m (c * 8 + h) none ≡ entry_of P (was c h)) → {call : Call} {x : Act} → Does P (desk (customer call) m) call x → closes_by p m (customer call) x.change ≡ closes_one P p was call (yes x.answer)
  unfolding closes_by closes_one yes if_granted customer
  closes_is was e {call} refuses = none_closed call
    where
      none_closed : (call : Call) → 0 ≡ closes_one P p was call none
      none_closed (opening c payload work) = refl
      none_closed (asking c hold index out) = refl
      none_closed (closing c hold) = refl
      none_closed tidying = refl
  closes_is was e (grants there low is) = refl
  closes_is was e says_nothing = refl
  closes_is was e (shows there low is name) = refl
  closes_is was e (shuts {c = c} {hold = h} there low is) = ap (has p) (e c h there low) ∙ has_form_lem P p (was c h)
  closes_is was e tidies = refl

-- All events: the table and the store stand for a model that has, hold by hold, what the events say

pub record Present (P : Payloads) {A : Type 0} (says : A → Option ℕ) (es : List (Event A)) (t : Table) (s : List ℕ) : Type 0 where
  pub model : Model
  pub stands : Stands P t s model
  pub all : length model ≡ 128
  pub leads : (c h : ℕ) → c < 16 → h < 8 → get_or model (c * 8 + h) none ≡ entry_of P (opened_with says c h es)
  pub opened : (c h : ℕ) → Opened P c h (opened_with says c h es)
  pub counted : (p : List ℕ) → users_of p model + closes says P p es ≡ opens says P p es

nothing_held : (n i : ℕ) → get_or {A = Entry} (replicate n none) i none ≡ none
nothing_held zero i = refl
nothing_held (suc n) zero = refl
nothing_held (suc n) (suc i) = nothing_held n i

-- `says` sees of an answer what there is to see
module _ (P : Payloads) {A : Type 0} (seen : Answer → A) (says : A → Option ℕ) (sees : (a : Answer) → says (seen a) ≡ yes a) where
  goes_on : {es : List (Event A)} {t : Table} {s : List ℕ} (call : Call) → Present P says es t s → Present P says (event call (seen (step P t s call).answer) ∷ es) (step P t s call).table (step P t s call).store
  unfolding opened_with opens closes acting next
  goes_on {es} {t} {s} call w =
      let m = w.model in
      let x = refines P t s m w.stands call in
      let does_it : Act = acting P x.room m call in
      let d : Does P (desk (customer call) m) call does_it = does P x.room (desk (customer call) m) (desk_length (customer call) m) call in
      let y : says (seen (step P t s call).answer) ≡ yes does_it.answer = sees (step P t s call).answer ∙ ap yes x.answers in
      record {
        model = changed (customer call) does_it.change m;
        stands = x.stands;
        all = all_left P m w.all (customer call) does_it.change;
        leads = λ c h i j. rw y (turned_is P m w.all c h i j (opened_with says c h es) (w.leads c h i j) d);
        opened = λ c h. rw y (turned_fine P m w.all c h (opened_with says c h es) (w.opened c h) d);
        counted = λ p.
            let l : users_of p (changed (customer call) does_it.change m) + closes_by p m (customer call) does_it.change ≡ users_of p m + opens_by p does_it.change = one_turn P p x.room m call in
            rw (y, ← opens_is P p m d, ← closes_is P p m (λ c h. opened_with says c h es) w.leads d) (omega (arith, l, w.counted p));
      }

  pub present : {es : List (Event A)} {t : Table} {s : List ℕ} → Past P seen es t s → Present P says es t s
  unfolding opened_with opens closes entry_of
  present (begun {s = s} n e more few) = record {
    model = nobody;
    stands = starts P s n e more few;
    all = length-replicate {A = Entry} 128 none;
    leads = λ c h i j. nothing_held 128 (c * 8 + h);
    opened = λ c h. record { fine = λ p e. absurd (not_some e) };
    counted = λ p. rw (no_users p 128);
  }
  present (called call past) = goes_on call (present past)
