-- What an open does after a history, whole: each refusal in its order, a payload that is stored already, and one that is new.
use Rattle.std.specs.Prelude.{ℕ, zero, suc, ◌+◌, ◌*◌, ◌≤◌, ◌<◌, Bool, true, false, ◌≢◌, ◌≡◌, ltb, leb, length, drop}
use mathlib.Core.List.{List, [], ◌∷◌, ◌++◌, map}
use Rattle.std.proofs.Math.Option.{Option, none, some}
use Rattle.std.proofs.Math.Path.{refl, ap, subst}
use Rattle.std.proofs.Common.{sym, ◌∙◌, arith, get_or-set_same}
use Rattle.std.proofs.Math.ListN.{get_or, length-take, length-drop}
use borrow.Author.Tests.{eq-eqb, ltb-true, ltb-false, leb-true, leb-false}
use Rattle.format.specs.Laws.Outcomes.{by_test}
use Rattle.format.specs.Reading.{Judged, refused, accepted}
use Rattle.sharing.specs.Blocks.{need, extra}
use Rattle.sharing.specs.Events.{Event, Past, called, yes, is_hold, turned, opened_with, Stored, FreeRun}
use Rattle.sharing.specs.Laws.Answers.{entry_none, none_entry}
use Rattle.sharing.specs.Laws.Doing.{lowest_of, in_use}
use Rattle.sharing.specs.Laws.Events.{form_of, entry_of, Present, present}
use Rattle.sharing.specs.Laws.FirstRun.{after_none, first_free, none_free}
use Rattle.sharing.specs.Laws.Holds.{Led, empty, led, leads_get_d, leads_desk, leads_vacant}
use Rattle.sharing.specs.Laws.Isolation.{desk_length, map_length, not_some}
use Rattle.sharing.specs.Laws.Room.{opened_is, placed_is}
use Rattle.sharing.specs.Laws.Shelf.{Shelf, At, spread, blocks_of, marks_of, taken_of}
use Rattle.sharing.specs.Laws.Standing.{fits_is}
use Rattle.sharing.specs.Laws.Stored.{stored_at, at_stored}
use Rattle.sharing.specs.Laws.Walks.{find_some, find_none}
use Rattle.sharing.specs.Model.{Payloads, opening, Answer, refusal, granted, over, desk, first_true, go, with_hold, with_work, front, Entry, vacant}
use Rattle.sharing.specs.Step.{After, leaves, leading, newly, placed, opened_in, fitting, step}
use Rattle.sharing.specs.Table.{Table, find, first_run}

-- a payload whose canonical form fits into the work buffer, and the customer's lowest hold that is not in use
pub record Ready (P : Payloads) (held : ℕ → Option (List ℕ)) (c : ℕ) (payload work q : List ℕ) (h : ℕ) : Type 0 where
  pub there : c < 16
  pub canonical : P.canonical payload ≡ accepted q
  pub fits : length q ≤ length work
  pub low : h < 8
  pub free : held h ≡ none
  pub others : (k : ℕ) → k < h → held k ≢ none

pub data Opens (P : Payloads) (held : ℕ → Option (List ℕ)) (t : Table) (s : List ℕ) (c : ℕ) (payload work : List ℕ) : After → Type 0 where
  no_customer : 16 ≤ c → Opens P held t s c payload work (leaves t s (refusal 23 0 work))
  not_accepted : {n at : ℕ} → c < 16 → P.canonical payload ≡ refused n at → Opens P held t s c payload work (leaves t s (refusal n at work))
  too_short : {q : List ℕ} → c < 16 → P.canonical payload ≡ accepted q → length work < length q → Opens P held t s c payload work (leaves t s (refusal 13 (length q) work))
  all_in_use : {q : List ℕ} → c < 16 → P.canonical payload ≡ accepted q → length q ≤ length work → ((h : ℕ) → h < 8 → held h ≢ none) → Opens P held t s c payload work (leaves t s (refusal 25 0 work))
  no_room : {q : List ℕ} {h : ℕ} → Ready P held c payload work q h → ((b : ℕ) → Stored t s b q → ⊥) → ((b : ℕ) → FreeRun t s b (need (length q)) → ⊥) → Opens P held t s c payload work (leaves t s (refusal 26 0 (over q work)))
  joins : {q : List ℕ} {h b : ℕ} {u : Table} → Ready P held c payload work q h → Stored t s b q → Opens P held t s c payload work (leaves u s (granted h (over q work)))
  comes : {q r : List ℕ} {h b : ℕ} {u : Table} → Ready P held c payload work q h → ((d : ℕ) → Stored t s d q → ⊥) → FreeRun t s b (need (length q)) → ((d : ℕ) → d < b → FreeRun t s d (need (length q)) → ⊥) → Stored u r b q → Opens P held t s c payload work (leaves u r (granted h (over q work)))

none_true : (l : List Bool) → first_true l ≡ none → (i : ℕ) → i < length l → get_or l i true ≡ false
unfolding first_true
none_true [] e i h = absurd (omega arith)
none_true (true ∷ l) e i h = absurd (not_some (sym e))
none_true (false ∷ l) e zero h = refl
none_true (false ∷ l) e (suc i) h = none_true l (after_none (first_true l) e) i (omega arith)

led_at : {sh : Shelf} {b : ℕ} {q : List ℕ} {x : ℕ} {e : Entry} → Led sh x e → x ≡ suc b → e ≡ some q → (u : ℕ) × At b q u sh
led_at empty i j = absurd (omega arith)
led_at {b = b} {q = q} (led {b = d} {u = u} {p = p} a) i j = let y : d ≡ b = omega arith in let z : p ≡ q = cc in (u, rw (y, z) at a)

module _ (P : Payloads) {A : Type 0} (seen : Answer → A) (says : A → Option ℕ) (sees : (a : Answer) → says (seen a) ≡ yes a) {es : List (Event A)} {t : Table} {s : List ℕ} (before : Past P seen es t s) (c : ℕ) (payload work : List ℕ) where
  abbrev held : ℕ → Option (List ℕ)
  held h = opened_with says c h es

  -- where the hold leads the payload stands
  new_stored : {h b : ℕ} {q left r : List ℕ} {u : Table} → c < 16 → h < 8 → P.canonical payload ≡ accepted q → get_or u.holds (c * 8 + h) 0 ≡ suc b → step P t s (opening c payload work) ≡ leaves u r (granted h left) → Stored u r b q
  unfolding opened_with turned is_hold yes entry_of form_of
  new_stored {h} {b} {q} {left} {r} {u} i j can at e =
      let w = present P seen says sees (called (opening c payload work) before) in
      let y : says (seen (step P t s (opening c payload work)).answer) ≡ some h = sees (step P t s (opening c payload work)).answer ∙ ap (λ (x : After). yes x.answer) e in
      let l = w.leads c h i j in
      let z : get_or w.model (c * 8 + h) none ≡ some q = l ∙ rw (y, eq-eqb c c refl, eq-eqb h h refl, can) refl in
      let k = led_at (leads_get_d (c * 8 + h) w.stands.holding.leads) (ap (λ (x : After). get_or x.table.holds (c * 8 + h) 0) e ∙ at) z in
      let o = stored_at P w.stands k.1 in
      subst (λ (x : After). Stored x.table x.store b q) e o

  module _ (w : Present P says es t s) where
    abbrev holds_now : List Entry
    holds_now = desk c w.model

    abbrev next_free : Option ℕ
    next_free = first_true (map vacant holds_now)

    as_opened : step P t s (opening c payload work) ≡ opened_in t s c work (front P c next_free payload work)
    unfolding step fitting
    as_opened = rw (fits_is w.stands.laid) (ap (λ (l : List Bool). opened_in t s c work (front P c (first_true l) payload work)) (leads_vacant (leads_desk c w.stands.holding.leads)))

    desk_full : c < 16 → length holds_now ≡ 8
    unfolding desk
    desk_full i = omega (arith, length-take 8 (drop (c * 8) w.model), length-drop (c * 8) w.model, w.all)

    module _ (q : List ℕ) (h : ℕ) (ready : Ready P held c payload work q h) where
      news : ((b : ℕ) → Stored t s b q → ⊥) → (o : Option ℕ) → first_run (need (length q)) (spread taken_of w.stands.shelf) ≡ o → step P t s (opening c payload work) ≡ newly t s c q work h o → Opens P held t s c payload work (newly t s c q work h o)
      unfolding newly leading need
      news absent none e is = no_room ready absent (none_free P w.stands (extra (length q)) e)
      news absent (some b) e is =
          let f = first_free P w.stands b (extra (length q)) e in
          comes ready absent f.0 f.1 (new_stored ready.there ready.low ready.canonical (get_or-set_same t.holds (c * 8 + h) (suc b) 0 (omega (arith, ready.there, ready.low, w.stands.all))) is)

      places : (o : Option ℕ) → find q (spread marks_of w.stands.shelf ++ w.stands.laid.tail) (spread blocks_of w.stands.shelf) ≡ o → step P t s (opening c payload work) ≡ placed t s c q work h o → Opens P held t s c payload work (placed t s c q work h o)
      places none e is =
          let z = placed_is P t s w.model w.stands c q work h in
          rw z (news (λ b x. find_none q w.stands.shelf w.stands.laid.tail e (at_stored P w.stands x).1) (first_run (need (length q)) (spread taken_of w.stands.shelf)) refl (is ∙ z))
      places (some b) e is = let r = find_some q w.stands.shelf w.stands.laid.tail e in unfold placed in joins ready (stored_at P w.stands r.1)

      goes : step P t s (opening c payload work) ≡ opened_in t s c work (go q h) → Opens P held t s c payload work (opened_in t s c work (go q h))
      goes is =
          let z = opened_is P t s w.model w.stands c q work h in
          rw z (places (find q (spread marks_of w.stands.shelf ++ w.stands.laid.tail) (spread blocks_of w.stands.shelf)) refl (is ∙ z))

    by_hold : (q : List ℕ) → c < 16 → P.canonical payload ≡ accepted q → length q ≤ length work → (o : Option ℕ) → next_free ≡ o → front P c next_free payload work ≡ with_hold q o → Opens P held t s c payload work (opened_in t s c work (with_hold q o))
    unfolding with_hold opened_in
    by_hold q i can room none e is = all_in_use i can room (λ h b z. in_use holds_now h (none_true (map vacant holds_now) e h (omega (arith, map_length holds_now, desk_full i))) (entry_none P seen says sees before c w h i z))
    by_hold q i can room (some h) e is =
        let l = lowest_of holds_now (desk_length c w.model) h e in
        goes q h (record {
          there = i;
          canonical = can;
          fits = room;
          low = l.low;
          free = none_entry P seen says sees before c w h (held h) refl i l.low l.free;
          others = λ k b z. l.others k b (entry_none P seen says sees before c w k i z);
        }) (as_opened ∙ ap (opened_in t s c work) is)

    by_form : (j : Judged (List ℕ)) → c < 16 → P.canonical payload ≡ j → front P c next_free payload work ≡ with_work j next_free work → Opens P held t s c payload work (opened_in t s c work (with_work j next_free work))
    unfolding with_work opened_in
    by_form (refused n at) i can is = not_accepted i can
    by_form (accepted q) i can is = by_test (leb (length q) (length work))
        (λ b. let z : with_work (accepted q) next_free work ≡ with_hold q next_free = rw b refl in rw b (by_hold q i can (leb-true (length q) (length work) b) next_free refl (is ∙ z)))
        (λ b. rw b (too_short i can (leb-false (length q) (length work) b)))

    by_customer : Opens P held t s c payload work (opened_in t s c work (front P c next_free payload work))
    unfolding front opened_in
    by_customer = by_test (ltb c 16)
        (λ b. let z : front P c next_free payload work ≡ with_work (P.canonical payload) next_free work = rw b refl in rw z (by_form (P.canonical payload) (ltb-true c 16 b) refl z))
        (λ b. rw b (no_customer (ltb-false c 16 b)))

  pub opens_as : Opens P held t s c payload work (step P t s (opening c payload work))
  opens_as = let w = present P seen says sees before in rw (as_opened w) (by_customer w)
