-- What is answered after a history, by what the customer's holds were opened with.
use Rattle.std.specs.Prelude.{ℕ, ◌≤◌, ◌<◌, List, [], ◌≡◌, ltb, length}
use Rattle.std.proofs.Math.Option.{Option, none, some}
use Rattle.std.proofs.Math.Path.{refl, ap}
use Rattle.std.proofs.Common.{sym, ◌∙◌, arith}
use Rattle.std.proofs.Math.ListN.{get_or}
use borrow.Author.Tests.{lt-ltb, le-ltb, ltb-true, ltb-false}
use Rattle.format.specs.Laws.Outcomes.{by_test}
use Rattle.format.specs.Reading.{accepted}
use Rattle.sharing.specs.Events.{Event, Past, yes, opened_with}
use Rattle.sharing.specs.Laws.Events.{form_of, entry_of, desk_at, Present, present}
use Rattle.sharing.specs.Laws.Histories.{refines}
use Rattle.sharing.specs.Laws.Isolation.{desk_length, get_d_in, not_some}
use Rattle.sharing.specs.Model.{Payloads, asking, closing, Answer, refusal, closed, replied, reply, desk, Entry, asked, shut, acts, acting, customer}
use Rattle.sharing.specs.Step.{step}
use Rattle.sharing.specs.Table.{Table}

beyond : (own : List Entry) (h : ℕ) (x : Entry) → get_or own h none ≡ x → length own ≤ h → get_or own h none ≡ none
beyond own h none e b = e
beyond own h (some p) e b = absurd (omega (arith, get_d_in own h p e))

module _ (P : Payloads) {A : Type 0} (seen : Answer → A) (says : A → Option ℕ) (sees : (a : Answer) → says (seen a) ≡ yes a) {es : List (Event A)} {t : Table} {s : List ℕ} (before : Past P seen es t s) (c : ℕ) where
  abbrev held : ℕ → Option (List ℕ)
  held h = opened_with says c h es

  module _ (w : Present P says es t s) where
    entry_at : (h : ℕ) → c < 16 → h < 8 → get_or (desk c w.model) h none ≡ entry_of P (held h)
    entry_at h i j = desk_at c h w.model j ∙ w.leads c h i j

    -- a hold that was not opened is empty, and one that was has the canonical form
    pub entry_none : (h : ℕ) → c < 16 → held h ≡ none → get_or (desk c w.model) h none ≡ none
    unfolding entry_of
    entry_none h i e = by_test (ltb h 8)
        (λ u. entry_at h i (ltb-true h 8 u) ∙ ap (entry_of P) e)
        (λ u. let l = ltb-false h 8 u in beyond (desk c w.model) h (get_or (desk c w.model) h none) refl (omega (arith, desk_length c w.model)))

    pub none_entry : (h : ℕ) (o : Option (List ℕ)) → held h ≡ o → c < 16 → h < 8 → get_or (desk c w.model) h none ≡ none → o ≡ none
    unfolding entry_of form_of
    none_entry h none e i j z = refl
    none_entry h (some payload) e i j z = let f = (w.opened c h).fine payload e in absurd (not_some (sym z ∙ entry_at h i j ∙ ap (entry_of P) e ∙ ap form_of f.3))

  -- A question and a close

  module _ (hold : ℕ) where
    pub record NoCustomer : Type 0 where
      pub not_asked : (index : ℕ) (out : List ℕ) → (step P t s (asking c hold index out)).answer ≡ refusal 23 0 out
      pub not_closed : (step P t s (closing c hold)).answer ≡ refusal 23 0 []

    pub no_customer : 16 ≤ c → NoCustomer
    unfolding acting acts
    no_customer i =
        let w = present P seen says sees before in
        record {
          not_asked = λ index out. (refines P t s w.model w.stands (asking c hold index out)).answers ∙ rw (le-ltb c 16 i) refl;
          not_closed = (refines P t s w.model w.stands (closing c hold)).answers ∙ rw (le-ltb c 16 i) refl;
        }

    pub record Held (payload : List ℕ) : Type 0 where
      pub there : c < 16
      pub form : List ℕ
      pub canonical : P.canonical payload ≡ accepted form
      pub replies : (index : ℕ) (out : List ℕ) → (step P t s (asking c hold index out)).answer ≡ replied (P.name form index) out
      pub closes : (step P t s (closing c hold)).answer ≡ closed

    pub held_answers : (payload : List ℕ) → held hold ≡ some payload → Held payload
    unfolding acting customer acts entry_of form_of asked reply shut
    held_answers payload e =
        let w = present P seen says sees before in
        let f = (w.opened c hold).fine payload e in
        let z : get_or (desk c w.model) hold none ≡ some f.2 = entry_at w hold f.0 f.1 ∙ ap (entry_of P) e ∙ ap form_of f.3 in
        record {
          there = f.0;
          form = f.2;
          canonical = f.3;
          replies = λ index out. (refines P t s w.model w.stands (asking c hold index out)).answers ∙ rw (lt-ltb c 16 f.0, z) refl;
          closes = (refines P t s w.model w.stands (closing c hold)).answers ∙ rw (lt-ltb c 16 f.0, z) refl;
        }

    pub record NotHeld : Type 0 where
      pub not_asked : (index : ℕ) (out : List ℕ) → (step P t s (asking c hold index out)).answer ≡ refusal 24 0 out
      pub not_closed : (step P t s (closing c hold)).answer ≡ refusal 24 0 []

    pub none_held : c < 16 → held hold ≡ none → NotHeld
    unfolding acting customer acts asked shut
    none_held i e =
        let w = present P seen says sees before in
        let z = entry_none w hold i e in
        record {
          not_asked = λ index out. (refines P t s w.model w.stands (asking c hold index out)).answers ∙ rw (lt-ltb c 16 i, z) refl;
          not_closed = (refines P t s w.model w.stands (closing c hold)).answers ∙ rw (lt-ltb c 16 i, z) refl;
        }
