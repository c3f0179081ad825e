-- Every call on a table and a store that stand for a model answers as the model, unless 26, and they stand again.
use Prim.Native.Nat.{ℕ, zero, suc, ◌+◌, ◌-◌, ◌*◌, ◌<◌}
use Rattle.std.specs.Prelude.{◌≡◌, Bool, true, false, ltb, length, get_or, set, drop}
use Rattle.std.proofs.Math.Path.{refl, ap}
use Rattle.std.proofs.Common.{sym, ap₂, ◌∙◌, arith, length-take, length-drop, get_or-take, get_or-drop, eqb-true}
use mathlib.Core.List.{List, [], ◌∷◌, ◌++◌, map, append-nil}
use Rattle.std.proofs.Math.Option.{Option, none, some}
use Rattle.sharing.specs.Blocks.{need, extra, scatter, join}
use Rattle.format.specs.Laws.Outcomes.{by_test}
use Rattle.sharing.specs.Laws.Blocks.{gather_scatter, scatter_right, no_false}
use Rattle.sharing.specs.Model.{Payloads, opening, asking, closing, Answer, refusal, granted, over, desk, first_true, Front, stop, go, front, reply, Entry, Model, vacant, keep, Act, act, room_for, opened, asked, shut, acts, changed}
use Rattle.sharing.specs.Laws.Isolation.{first_true_is, front_go}
use Rattle.sharing.specs.Table.{Table, table, Mark, mark, blank, blocks, rows_right, find, taken, first_run, paste}
use Rattle.sharing.specs.Step.{After, leaves, unused, joined, leading, newly, placed, opened_in, judged, asked_at, closed_at, fitting}
use Rattle.sharing.specs.Laws.Shelf.{gap, row, Shelf, size, spread, blocks_of, marks_of, taken_of, At, at_stood}
use Rattle.sharing.specs.Laws.Walks.{all_right, find_some, find_none, taken_is, run_some}
use Rattle.sharing.specs.Laws.Holds.{Led, empty, led, leads_get_d, leads_desk, leads_vacant}
use Rattle.sharing.specs.Laws.Swaps.{between, marks_there, marks_get, blocks_from}
use Rattle.sharing.specs.Laws.Standing.{Fine, Holding, Laid, Stands, blocks_are}
use Rattle.sharing.specs.Laws.Changes.{gains, loses, goes, comes}

-- What a call left, against what the model does with room for it or without; without room the answer is 26
pub record Met (P : Payloads) (m : Model) (c : ℕ) (does : Bool → Act) (a : After) : Type 0 where
  pub room : Bool
  pub answers : a.answer ≡ (does room).answer
  pub stands : Stands P a.table a.store (changed c (does room).change m)
  pub full : room ≡ false → (buffer : List ℕ) × (a.answer ≡ refusal 26 0 buffer)

-- Holds by customer

pub slot_of : (c h : ℕ) (l : List ℕ) → h < length (desk c l) → (c * 8 + h < length l) × (get_or l (c * 8 + h) 0 ≡ get_or (desk c l) h 0)
unfolding desk
slot_of c h l b =
    let e = length-take 8 (drop (c * 8) l) in
    let f = length-drop (c * 8) l in
    let k : h < 8 = omega arith in
    (omega arith, sym (get_or-take 8 (drop (c * 8) l) h 0 k ∙ get_or-drop (c * 8) l h 0))

unused_is : (l : List ℕ) (h : ℕ) → h < length (map unused l) → get_or (map unused l) h false ≡ true → (h < length l) × (get_or l h 0 ≡ 0)
unfolding unused
unused_is [] h b e = absurd (omega arith)
unused_is (x ∷ l) zero b e = (omega arith, eqb-true x 0 e)
unused_is (x ∷ l) (suc h) b e = let r = unused_is l h (omega arith) e in (omega (arith, r.0), r.1)

open_in : (l : List ℕ) (h b : ℕ) → get_or l h 0 ≡ suc b → h < length l
open_in [] h b e = absurd (omega arith)
open_in (x ∷ l) zero b e = omega arith
open_in (x ∷ l) (suc h) b e = omega (arith, open_in l h b e)

unchanged : {P : Payloads} {t : Table} {s : List ℕ} {m : Model} {c : ℕ} {does : Bool → Act} (st : Stands P t s m) (a : Answer) → does true ≡ act keep a → Met P m c does (leaves t s a)
unfolding changed
unchanged st a e = record { room = true; answers = ap (λ (x : Act). x.answer) (sym e); stands = rw e st; full = λ f. absurd (no_false f) }

module _ (P : Payloads) (t : Table) (s : List ℕ) (m : Model) (c : ℕ) (st : Stands P t s m) where
  -- Opening

  module _ (q work : List ℕ) (h : ℕ) (slot : c * 8 + h < length t.holds) (free : get_or t.holds (c * 8 + h) 0 ≡ 0) (fine : Fine P q) where
    grants : (b : ℕ) (mk : Mark) (s' : List ℕ) → Stands P (leading t s c h b mk) s' (set m (c * 8 + h) (some q)) → Met P m c (λ room. room_for room q h work) (leaves (leading t s c h b mk) s' (granted h (over q work)))
    unfolding room_for changed
    grants b mk s' x = record { room = true; answers = refl; stands = x; full = λ f. absurd (no_false f) }

    joins : (b u : ℕ) → At b q u st.shelf → Met P m c (λ room. room_for room q h work) (placed t s c q work h (some b))
    unfolding placed leading
    joins b u a =
        let r = at_stood a in
        let l : Laid t s (between r.before (row q u ∷ []) r.after) = rw r.whole at st.laid in
        let w : Holding P (between r.before (row q u ∷ []) r.after) t.holds m = rw r.whole at st.holding in
        grants b (joined (get_or t.marks b blank)) s (rw r.place (gains P t s m (c * 8 + h) slot st.all r.before r.after q u l w free))

    news : (o : Option ℕ) → first_run (need (length q)) (spread taken_of st.shelf) ≡ o → ((b u : ℕ) → At b q u st.shelf → ⊥) → Met P m c (λ room. room_for room q h work) (newly t s c q work h o)
    unfolding newly leading need room_for changed
    news none e new = record { room = false; answers = refl; stands = st; full = λ f. (over q work, refl) }
    news (some b) e new =
        let r = run_some (extra (length q)) st.shelf e in
        let l : Laid t s (between r.before (map gap r.free) r.after) = rw r.whole at st.laid in
        let w : Holding P (between r.before (map gap r.free) r.after) t.holds m = rw r.whole at st.holding in
        let n : (b u : ℕ) → At b q u (between r.before (map gap r.free) r.after) → ⊥ = rw r.whole at new in
        grants b (mark 1 (length q)) (join (paste b (scatter q) (blocks s))) (rw r.place (comes P t s m (c * 8 + h) slot st.all r.before r.after r.free q r.count l w free fine n))

    placed_none : placed t s c q work h none ≡ newly t s c q work h (first_run (need (length q)) (spread taken_of st.shelf))
    unfolding placed
    placed_none = ap (λ (l : List Bool). newly t s c q work h (first_run (need (length q)) l)) (ap₂ (taken 0) st.laid.marks (blocks_are st.laid) ∙ taken_is st.shelf st.laid.tail)

    places : (o : Option ℕ) → find q (spread marks_of st.shelf ++ st.laid.tail) (spread blocks_of st.shelf) ≡ o → Met P m c (λ room. room_for room q h work) (placed t s c q work h o)
    places none e = rw placed_none (news (first_run (need (length q)) (spread taken_of st.shelf)) refl (λ b u a. find_none q st.shelf st.laid.tail e a))
    places (some b) e = let r = find_some q st.shelf st.laid.tail e in joins b r.0 r.1

    -- the checks are right: 27 is not given
    opened_go : opened_in t s c work (go q h) ≡ placed t s c q work h (find q (spread marks_of st.shelf ++ st.laid.tail) (spread blocks_of st.shelf))
    unfolding opened_in
    opened_go = rw (ap₂ rows_right st.laid.marks (blocks_are st.laid) ∙ all_right st.shelf st.laid.tail) (ap (placed t s c q work h) (ap₂ (find q) st.laid.marks (blocks_are st.laid)))

    goes_in : Met P m c (λ room. room_for room q h work) (opened_in t s c work (go q h))
    goes_in = rw opened_go (places (find q (spread marks_of st.shelf ++ st.laid.tail) (spread blocks_of st.shelf)) refl)

  opens_by : (work : List ℕ) (f : Front) → ((q : List ℕ) (h : ℕ) → f ≡ go q h → (c * 8 + h < length t.holds) × (get_or t.holds (c * 8 + h) 0 ≡ 0) × Fine P q) → Met P m c (λ room. opened room work f) (opened_in t s c work f)
  unfolding opened opened_in
  opens_by work (stop n at) k = unchanged st (refusal n at work) refl
  opens_by work (go q h) k = let r = k q h refl in goes_in q work h r.0 r.1 r.2

  same_unused : map unused (desk c t.holds) ≡ map vacant (desk c m)
  same_unused = leads_vacant (leads_desk c st.holding.leads)

  pub opens : (payload work : List ℕ) → Met P m c (λ room. acts P room (desk c m) (opening c payload work)) (fitting P t s (opening c payload work))
  unfolding acts fitting
  opens payload work =
      rw (← same_unused) (opens_by work (front P c (first_true (map unused (desk c t.holds))) payload work)
      (λ q h e. let g = front_go P c (first_true (map unused (desk c t.holds))) payload work e in
      let i = first_true_is (map unused (desk c t.holds)) h g.unused in
      let k = unused_is (desk c t.holds) h i.0 i.1 in
      let l = slot_of c h t.holds k.0 in
      (l.0, l.1 ∙ k.1, P.again payload q g.taken)))

  -- Asking

  pub mark_at : {b u : ℕ} {p : List ℕ} (a : At b p u st.shelf) → get_or t.marks b blank ≡ mark (suc u) (length p)
  mark_at {b} {u} {p} a =
      let r = at_stood a in
      rw r.place (ap (λ (l : List Mark). get_or l (size r.before) blank) (st.laid.marks ∙ ap (λ (x : Shelf). spread marks_of x ++ st.laid.tail) r.whole ∙ marks_there r.before r.after p u st.laid.tail)
      ∙ marks_get r.before (mark (suc u) (length p)) blank _)

  pub blocks_at : {b u : ℕ} {p : List ℕ} (a : At b p u st.shelf) → drop b (blocks s) ≡ scatter p ++ spread blocks_of (at_stood a).after
  blocks_at {b} {u} {p} a =
      let r = at_stood a in
      ap₂ drop r.place (blocks_are st.laid ∙ ap (spread blocks_of) r.whole) ∙ blocks_from r.before (row p u ∷ []) r.after ∙ ap (λ (l : List (List ℕ)). l ++ spread blocks_of r.after) (append-nil (scatter p))

  answered : (b u : ℕ) (p : List ℕ) (index : ℕ) (out : List ℕ) → At b p u st.shelf → asked_at t s c P (suc b) index out ≡ reply P p index out
  unfolding asked_at judged
  answered b u p index out a =
      let bs = spread blocks_of (at_stood a).after in
      rw (mark_at a, blocks_at a) (rw (scatter_right p bs, gather_scatter p bs) (rw (st.holding.fine b u p a).1))

  asks_by : (x : ℕ) (e : Entry) (index : ℕ) (out : List ℕ) → Led st.shelf x e → Met P m c (λ room. asked P e index out) (leaves t s (asked_at t s c P x index out))
  unfolding asked asked_at
  asks_by x e index out empty = unchanged st (refusal 24 0 out) refl
  asks_by x e index out (led {b = b} {u = u} {p = p} a) = rw (answered b u p index out a) (unchanged st (reply P p index out) refl)

  pub asks : (hold index : ℕ) (out : List ℕ) → Met P m c (λ room. acts P room (desk c m) (asking c hold index out)) (fitting P t s (asking c hold index out))
  unfolding acts fitting
  asks hold index out = by_test (ltb c 16)
      (λ k. rw k (asks_by (get_or (desk c t.holds) hold 0) (get_or (desk c m) hold none) index out (leads_get_d hold (leads_desk c st.holding.leads))))
      (λ k. rw k (unchanged st (refusal 23 0 out) refl))

  -- Closing

  closes_at : (hold b u : ℕ) (p : List ℕ) → At b p u st.shelf → c * 8 + hold < length t.holds → get_or t.holds (c * 8 + hold) 0 ≡ suc b → Stands P (closed_at t s c hold (suc b)).table s (set m (c * 8 + hold) none)
  unfolding closed_at
  closes_at hold b zero p a slot e =
      let r = at_stood a in
      rw r.place (goes P t s m (c * 8 + hold) slot st.all r.before r.after p (rw r.whole at st.laid) (rw r.whole at st.holding) (e ∙ ap suc r.place))
  closes_at hold b (suc u) p a slot e =
      let r = at_stood a in
      rw r.place (loses P t s m (c * 8 + hold) slot st.all r.before r.after p u (rw r.whole at st.laid) (rw r.whole at st.holding) (e ∙ ap suc r.place))

  closes_by : (hold x : ℕ) (e : Entry) → Led st.shelf x e → get_or (desk c t.holds) hold 0 ≡ x → Met P m c (λ room. shut e hold) (closed_at t s c hold x)
  unfolding shut closed_at changed
  closes_by hold x e empty i = unchanged st (refusal 24 0 []) refl
  closes_by hold x e (led {b = b} {u = u} {p = p} a) i =
      let k = slot_of c hold t.holds (open_in (desk c t.holds) hold b i) in
      record { room = true; answers = refl; stands = closes_at hold b u p a k.0 (k.1 ∙ i); full = λ f. absurd (no_false f) }

  pub closes : (hold : ℕ) → Met P m c (λ room. acts P room (desk c m) (closing c hold)) (fitting P t s (closing c hold))
  unfolding acts fitting
  closes hold = by_test (ltb c 16)
      (λ k. rw k (closes_by hold (get_or (desk c t.holds) hold 0) (get_or (desk c m) hold none) (leads_get_d hold (leads_desk c st.holding.leads)) refl))
      (λ k. rw k (unchanged st (refusal 23 0 []) refl))
