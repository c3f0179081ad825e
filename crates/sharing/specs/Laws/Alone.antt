-- Isolation by events: a customer who is never refused for room is answered by their own calls alone.
use Rattle.std.specs.Prelude.{ℕ, ◌≡◌, false, set}
use Rattle.std.proofs.Math.Path.{refl, ap}
use Rattle.std.proofs.Common.{sym, ap₂, ◌∙◌}
use Rattle.std.proofs.Math.Bool.{true}
use mathlib.Core.List.{List, [], ◌∷◌}
use Rattle.format.specs.Laws.Outcomes.{by_test}
use Rattle.sharing.specs.Events.{Event, event, Past, begun, called, Onward, nothing_yet, once_more, Never, nor, calls_of, answers_to}
use Rattle.sharing.specs.Histories.{owns}
use Rattle.sharing.specs.Laws.Histories.{refines, starts, nobody}
use Rattle.sharing.specs.Laws.Isolation.{desk_same, owns_is, other_desk}
use Rattle.sharing.specs.Laws.Standing.{Stands}
use Rattle.sharing.specs.Model.{Payloads, Call, Answer, refusal, desk, Entry, Model, Change, keep, put, acts, changed, acting, next}
use Rattle.sharing.specs.Step.{step}
use Rattle.sharing.specs.Table.{Table}

unfoldable moved : Change → List Entry → List Entry
moved keep own = own
moved (put h e) own = set own h e

moved_is : (c : ℕ) (x : Change) (m : Model) → desk c (changed c x m) ≡ moved x (desk c m)
unfolding changed moved
moved_is c keep m = refl
moved_is c (put h e) m = desk_same c h m e

never_head : {A : Type 0} {So : A → Type 0} {a : A} {l : List A} → Never So (a ∷ l) → So a → ⊥
never_head (nor f n) = f

never_tail : {A : Type 0} {So : A → Type 0} {a : A} {l : List A} → Never So (a ∷ l) → Never So l
never_tail (nor f n) = n

module _ (P : Payloads) {A : Type 0} (seen : Answer → A) (c : ℕ) (first : List Entry) where
  -- the holds of a customer by their own calls, the latest first, and what these are answered
  unfoldable own_desk : List Call → List Entry
  own_desk [] = first
  own_desk (k ∷ ks) = moved (acts P true (own_desk ks) k).change (own_desk ks)

  unfoldable own_answers : List Call → List A
  own_answers [] = []
  own_answers (k ∷ ks) = seen (acts P true (own_desk ks) k).answer ∷ own_answers ks

  record Alone (es : List (Event A)) (t : Table) (s : List ℕ) : Type 0 where
    model : Model
    stands : Stands P t s model
    holds : desk c model ≡ own_desk (calls_of c es)
    answers : answers_to c es ≡ own_answers (calls_of c es)

  module _ (Full : A → Type 0) (full : (buffer : List ℕ) → Full (seen (refusal 26 0 buffer))) where
    goes_on : {es : List (Event A)} {t : Table} {s : List ℕ} (call : Call) → (Never Full (answers_to c es) → Alone es t s) → Never Full (answers_to c (event call (seen (step P t s call).answer) ∷ es)) → Alone (event call (seen (step P t s call).answer) ∷ es) (step P t s call).table (step P t s call).store
    unfolding calls_of answers_to own_desk own_answers acting next
    goes_on {es} {t} {s} call before n = by_test (owns c call) own other
      where
        own : owns c call ≡ true → Alone (event call (seen (step P t s call).answer) ∷ es) (step P t s call).table (step P t s call).store
        own o =
            let q : Never Full (seen (step P t s call).answer ∷ answers_to c es) = rw o at n in
            let w = before (never_tail q) in
            let x = refines P t s w.model w.stands call in
            let g : x.room ≡ true = by_test x.room (λ k. k) (λ k. absurd (let f = x.full k in never_head q (rw f.1 (full f.0)))) in
            let i = owns_is c call o in
            record {
              model = next P x.room w.model call;
              stands = x.stands;
              holds = rw o (rw (i, g) (moved_is c (acts P true (desk c w.model) call).change w.model ∙ ap (λ (d : List Entry). moved (acts P true d call).change d) w.holds));
              answers = rw o (ap₂ (λ (a : A) (l : List A). a ∷ l) (ap seen (x.answers ∙ (rw (i, g) (ap (λ (d : List Entry). (acts P true d call).answer) w.holds)))) w.answers);
            }

        other : owns c call ≡ false → Alone (event call (seen (step P t s call).answer) ∷ es) (step P t s call).table (step P t s call).store
        other o =
            let w = before (rw o at n) in
            let x = refines P t s w.model w.stands call in
            record {
              model = next P x.room w.model call;
              stands = x.stands;
              holds = rw o (other_desk P x.room c call w.model o ∙ w.holds);
              answers = rw o w.answers;
            }

    onward : {t : Table} {s : List ℕ} {es : List (Event A)} {u : Table} {r : List ℕ} (m : Model) → Stands P t s m → desk c m ≡ first → Onward P seen t s es u r → Never Full (answers_to c es) → Alone es u r
    unfolding calls_of answers_to own_desk own_answers
    onward m st e nothing_yet n = record { model = m; stands = st; holds = e; answers = refl }
    onward m st e (once_more call o) n = goes_on call (λ k. onward m st e o k) n

module _ (P : Payloads) {A : Type 0} (seen : Answer → A) (c : ℕ) (Full : A → Type 0) (full : (buffer : List ℕ) → Full (seen (refusal 26 0 buffer))) where
  alone : {es : List (Event A)} {t : Table} {s : List ℕ} → Past P seen es t s → Never Full (answers_to c es) → Alone P seen c (desk c nobody) es t s
  unfolding calls_of answers_to own_desk own_answers
  alone (begun {s = s} k e more few) n = record { model = nobody; stands = starts P s k e more few; holds = refl; answers = refl }
  alone (called call past) n = goes_on P seen c (desk c nobody) Full full call (λ k. alone past k) n

  -- two histories that agree on the customer's calls
  pub same_answers : {es fs : List (Event A)} {t u : Table} {s r : List ℕ} → Past P seen es t s → Past P seen fs u r
      → Never Full (answers_to c es) → Never Full (answers_to c fs) → calls_of c es ≡ calls_of c fs → answers_to c es ≡ answers_to c fs
  same_answers p q n k e = (alone p n).answers ∙ ap (own_answers P seen c (desk c nobody)) e ∙ sym (alone q k).answers

  -- and what goes on from two tables that stand for one model
  pub same_onward : {es fs : List (Event A)} {t u t' u' : Table} {s r s' r' : List ℕ} (m : Model) → Stands P t s m → Stands P u r m → Onward P seen t s es t' s' → Onward P seen u r fs u' r'
      → Never Full (answers_to c es) → Never Full (answers_to c fs) → calls_of c es ≡ calls_of c fs → answers_to c es ≡ answers_to c fs
  same_onward m st su p q n k e =
      (onward P seen c (desk c m) Full full m st refl p n).answers ∙ ap (own_answers P seen c (desk c m)) e ∙ sym (onward P seen c (desk c m) Full full m su refl q k).answers
