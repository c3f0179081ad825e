-- A name that a customer is shown was in a payload that this customer opened.
use Rattle.std.specs.Prelude.{ℕ, ◌<◌, List, ◌≡◌, refl, length, get_or}
use Rattle.std.proofs.Math.Option.{Option, none, some}
use Rattle.std.proofs.Math.Path.{sym, ap}
use Rattle.std.proofs.Common.{◌∙◌}
use Rattle.format.specs.Canonical.{canonical_names, rewrite_names}
use Rattle.format.specs.Laws.Outcomes.{mapped}
use Rattle.format.specs.Names.{known_kind, judge_names}
use Rattle.format.specs.Reading.{Judged, refused, accepted}
use Rattle.format.proofs.Theorems.{edition_rewritten}
use Rattle.format.specs.declared.Edition.TheVariants.{First}
use Rattle.format.specs.declared.Question.TheVariants.{FunctionName}
use Rattle.sharing.specs.Events.{Event, Past, yes, opened_with}
use Rattle.sharing.specs.Laws.Doing.{Does, does, refuses, says_nothing, shows}
use Rattle.sharing.specs.Laws.Events.{form_of, entry_of, desk_at, present}
use Rattle.sharing.specs.Laws.Histories.{refines}
use Rattle.sharing.specs.Laws.Isolation.{desk_length, not_some}
use Rattle.sharing.specs.Model.{Payloads, asking, Answer, found, over, desk, Entry, Act, acting, customer}
use Rattle.sharing.specs.Named.{name_in, function_name}
use Rattle.sharing.specs.Step.{step}
use Rattle.sharing.specs.Table.{Table}

-- a hold was opened with a payload, whose canonical form has the name; and this is the answer
pub record Shown (P : Payloads) (opened : Option (List ℕ)) (index : ℕ) (out : List ℕ) (a : Answer) : Type 0 where
  pub payload : List ℕ
  pub form : List ℕ
  pub name : List ℕ
  pub was : opened ≡ some payload
  pub canonical : P.canonical payload ≡ accepted form
  pub has : P.name form index ≡ some name
  pub answer : a ≡ found (length name) (over name out)

entry_is : (P : Payloads) (o : Option (List ℕ)) {p : List ℕ} → entry_of P o ≡ some p → (payload : List ℕ) × (o ≡ some payload) × (P.canonical payload ≡ accepted p)
unfolding entry_of form_of
entry_is P none e = absurd (not_some e)
entry_is P (some payload) {p} e = (payload, refl, by_form (P.canonical payload) e)
  where
    by_form : (j : Judged (List ℕ)) → form_of j ≡ some p → j ≡ accepted p
    by_form (refused n at) e = absurd (not_some e)
    by_form (accepted q) e = let z : q ≡ p = cc in rw z

-- what a customer is shown, by their own holds
record Told (P : Payloads) (own : List Entry) (c hold index : ℕ) (out : List ℕ) (a : Answer) : Type 0 where
  there : c < 16
  low : hold < 8
  form : List ℕ
  name : List ℕ
  held : get_or own hold none ≡ some form
  has : P.name form index ≡ some name
  answer : a ≡ found (length name) (over name out)

told : (P : Payloads) (own : List Entry) {c hold index size : ℕ} {out : List ℕ} {x : Act} → Does P own (asking c hold index out) x → yes x.answer ≡ some size → Told P own c hold index out x.answer
unfolding yes
told P own refuses e = absurd (not_some e)
told P own says_nothing e = absurd (not_some e)
told P own (shows {p = p} {name = name} there low is has) e = record { there = there; low = low; form = p; name = name; held = is; has = has; answer = refl }

module _ (P : Payloads) {A : Type 0} (seen : Answer → A) (says : A → Option ℕ) (sees : (a : Answer) → says (seen a) ≡ yes a) where
  pub shown : {es : List (Event A)} {t : Table} {s : List ℕ} → Past P seen es t s → (c hold index size : ℕ) (out : List ℕ)
      → yes (step P t s (asking c hold index out)).answer ≡ some size → Shown P (opened_with says c hold es) index out (step P t s (asking c hold index out)).answer
  unfolding acting customer
  shown {es} {t} {s} past c hold index size out e =
      let w = present P seen says sees past in
      let x = refines P t s w.model w.stands (asking c hold index out) in
      let k = told P (desk c w.model) (does P x.room (desk c w.model) (desk_length c w.model) (asking c hold index out)) (ap yes (sym x.answers) ∙ e) in
      let i = entry_is P (opened_with says c hold es) (sym (w.leads c hold k.there k.low) ∙ sym (desk_at c hold w.model k.low) ∙ k.held) in
      record { payload = i.0; form = k.form; name = k.name; was = i.1; canonical = i.2; has = k.has; answer = x.answers ∙ k.answer }

-- of name payloads the canonical form answers as the payload
pub form_answers : (payload q : List ℕ) → canonical_names known_kind payload ≡ accepted q → (index : ℕ) → function_name q index ≡ function_name payload index
unfolding function_name
form_answers payload q e index =
    mapped rewrite_names (judge_names known_kind 0 payload) {w = q} (unfold canonical_names in e) λ v j same.
    ap name_in (((edition_rewritten First).rewritten (record { value = v; judged = j }) q e).answers_alike (FunctionName (record { 0 = index })))
