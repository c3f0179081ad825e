-- In the model a customer's answers follow from that customer's own calls.
use Rattle.std.specs.Prelude.{ℕ, zero, suc, ◌+◌, ◌-◌, ◌*◌, ◌≤◌, ◌<◌, ◌≡◌, Bool, true, false, List, [], ◌∷◌, map, ◌≢◌, ltb, leb, length, get_or, set, drop}
use Rattle.std.proofs.Math.Path.{refl, sym, ap}
use Rattle.std.proofs.Common.{◌∙◌, drop-set-lt}
use Rattle.std.proofs.Math.Option.{Option, none, some}
use native.Mathlib.Omega.{arith}
use Rattle.std.proofs.Math.ListN.{take, length-take}
use Rattle.std.proofs.lemmas.List.{drop-set-add}
use Rattle.std.proofs.Math.Seq.{take-set-lt, take-set-le, set_out}
use borrow.Author.Tests.{eqb-true, eqb-false, ltb-true, ltb-false}
use Rattle.format.specs.Laws.Outcomes.{by_test}
use Rattle.sharing.specs.Laws.Blocks.{no_true}
use Rattle.format.specs.Reading.{Judged, refused, accepted}
use Rattle.sharing.specs.Histories.{owns}
use Rattle.sharing.specs.Model.{Payloads, Call, opening, asking, closing, tidying, desk, after, first_true, Front, stop, go, with_hold, with_work, front, Entry, Model, vacant, Change, keep, put, room_for, opened, asked, shut, acts, customer, changed, acting, next}

-- One desk and the others

module _ {A : Type 0} where
  pub desk_same : (c h : ℕ) (l : List A) (v : A) → desk c (set l (c * 8 + h) v) ≡ set (desk c l) h v
  unfolding desk
  desk_same c h l v = ap (take 8) (drop-set-add (c * 8) l h v) ∙ by_test (ltb h 8)
      (λ t. take-set-lt 8 (drop (c * 8) l) h v (ltb-true h 8 t))
      (λ t. let b = ltb-false h 8 t in take-set-le 8 (drop (c * 8) l) h v b ∙ sym (set_out (take 8 (drop (c * 8) l)) h v (simp length-take (omega arith))))

  pub desk_other : (c d h : ℕ) (l : List A) (v : A) → c ≢ d → h < 8 → desk c (set l (d * 8 + h) v) ≡ desk c l
  unfolding desk
  desk_other c d h l v n b = by_test (ltb c d)
      (λ t. let u = ltb-true c d t in
      let e : d * 8 + h ≡ c * 8 + (d * 8 + h - c * 8) = omega arith in
      ap (λ (i : ℕ). take 8 (drop (c * 8) (set l i v))) e ∙ ap (take 8) (drop-set-add (c * 8) l (d * 8 + h - c * 8) v)
      ∙ take-set-le 8 (drop (c * 8) l) (d * 8 + h - c * 8) v (omega arith))
      (λ t. let u = ltb-false c d t in ap (take 8) (drop-set-lt (c * 8) l (d * 8 + h) v (omega arith)))

  pub desk_length : (c : ℕ) (l : List A) → length (desk c l) ≤ 8
  unfolding desk
  desk_length c l = simp length-take (omega arith)

pub not_some : {A : Type 0} {x : A} → none ≡ some x → ⊥
not_some e = let z : ◌≡◌ {A = ℕ} 0 1 = cc in omega arith

-- the first place is a place, and the test is true there
first_later : (l : List Bool) (h : ℕ) (o : Option ℕ) → ((k : ℕ) → o ≡ some k → (k < length l) × (get_or l k false ≡ true)) → after o ≡ some h → (h < suc (length l)) × (get_or (false ∷ l) h false ≡ true)
unfolding after
first_later l h none r e = absurd (not_some e)
first_later l h (some k) r e = let z : h ≡ suc k = cc in rw z (let q = r k refl in (omega (arith, q.0), q.1))

pub first_true_is : (l : List Bool) (h : ℕ) → first_true l ≡ some h → (h < length l) × (get_or l h false ≡ true)
unfolding first_true
first_true_is [] h e = absurd (not_some e)
first_true_is (true ∷ l) h e = let z : h ≡ 0 = cc in rw z (omega arith, refl)
first_true_is (false ∷ l) h e = first_later l h (first_true l) (λ k. first_true_is l k) e

-- and false at every place before it
first_later_first : (l : List Bool) (h : ℕ) (o : Option ℕ) → ((k : ℕ) → o ≡ some k → (i : ℕ) → i < k → get_or l i true ≡ false) → after o ≡ some h → (i : ℕ) → i < h → get_or (false ∷ l) i true ≡ false
unfolding after
first_later_first l h none r e i b = absurd (not_some e)
first_later_first l h (some k) r e zero b = refl
first_later_first l h (some k) r e (suc i) b = let z : h ≡ suc k = cc in r k refl i (omega arith)

pub first_true_first : (l : List Bool) (h : ℕ) → first_true l ≡ some h → (i : ℕ) → i < h → get_or l i true ≡ false
unfolding first_true
first_true_first [] h e i b = absurd (not_some e)
first_true_first (true ∷ l) h e i b = let z : h ≡ 0 = cc in absurd (omega arith)
first_true_first (false ∷ l) h e i b = first_later_first l h (first_true l) (λ k. first_true_first l k) e i b

-- A change is made to one of eight holds
pub data InDesk : Change → Type 0 where
  kept : InDesk keep
  within : {h : ℕ} {e : Entry} → h < 8 → InDesk (put h e)

not_go : {n at h : ℕ} {q : List ℕ} → stop n at ≡ go q h → ⊥
not_go e = let z : ◌≡◌ {A = ℕ} 0 1 = cc in omega arith

-- an opening that comes as far as the store: the payload was accepted, and the hold is the first unused one
pub record Passed (P : Payloads) (c : ℕ) (free : Option ℕ) (payload work q : List ℕ) (h : ℕ) : Type 0 where
  pub someone : c < 16
  pub taken : P.canonical payload ≡ accepted q
  pub unused : free ≡ some h

with_hold_go : (p : List ℕ) (free : Option ℕ) {q : List ℕ} {h : ℕ} → with_hold p free ≡ go q h → (p ≡ q) × (free ≡ some h)
unfolding with_hold
with_hold_go p none e = absurd (not_go e)
with_hold_go p (some k) {q} {h} e = let a : p ≡ q = cc in let b : k ≡ h = cc in (a, ap (λ (n : ℕ). some n) b)

with_work_go : (j : Judged (List ℕ)) (free : Option ℕ) (work : List ℕ) {q : List ℕ} {h : ℕ} → with_work j free work ≡ go q h → (j ≡ accepted q) × (free ≡ some h)
unfolding with_work
with_work_go (refused n at) free work e = absurd (not_go e)
with_work_go (accepted p) free work e = by_test (leb (length p) (length work))
    (λ t. let r = with_hold_go p free (rw t at e) in (ap (λ (x : List ℕ). accepted x) r.0, r.1))
    (λ t. absurd (not_go (rw t at e)))

pub front_go : (P : Payloads) (c : ℕ) (free : Option ℕ) (payload work : List ℕ) {q : List ℕ} {h : ℕ} → front P c free payload work ≡ go q h → Passed P c free payload work q h
unfolding front
front_go P c free payload work e = by_test (ltb c 16)
    (λ t. let r = with_work_go (P.canonical payload) free work (rw t at e) in record { someone = ltb-true c 16 t; taken = r.0; unused = r.1 })
    (λ t. absurd (not_go (rw t at e)))

pub map_length : (own : List Entry) → length (map vacant own) ≡ length own
map_length [] = refl
map_length (x ∷ own) = ap suc (map_length own)

opened_in_desk : (room : Bool) (work : List ℕ) (f : Front) → ((q : List ℕ) (h : ℕ) → f ≡ go q h → h < 8) → InDesk (opened room work f).change
unfolding opened room_for
opened_in_desk room work (stop n at) b = kept
opened_in_desk true work (go q h) b = within (b q h refl)
opened_in_desk false work (go q h) b = kept

pub get_d_in : (l : List Entry) (h : ℕ) (p : List ℕ) → get_or l h none ≡ some p → h < length l
get_d_in [] h p e = absurd (not_some e)
get_d_in (x ∷ l) zero p e = omega arith
get_d_in (x ∷ l) (suc h) p e = omega (arith, get_d_in l h p e)

asked_in_desk : (P : Payloads) (x : Entry) (index : ℕ) (out : List ℕ) → InDesk (asked P x index out).change
unfolding asked
asked_in_desk P none index out = kept
asked_in_desk P (some p) index out = kept

shut_in_desk : (x : Entry) (h : ℕ) → ((p : List ℕ) → x ≡ some p → h < 8) → InDesk (shut x h).change
unfolding shut
shut_in_desk none h b = kept
shut_in_desk (some p) h b = within (b p refl)

pub acts_in_desk : (P : Payloads) (room : Bool) (own : List Entry) (call : Call) → length own ≤ 8 → InDesk (acts P room own call).change
unfolding acts
acts_in_desk P room own (opening c payload work) l = opened_in_desk room work (front P c (first_true (map vacant own)) payload work)
    (λ q h e. omega (arith, (first_true_is (map vacant own) h (front_go P c (first_true (map vacant own)) payload work e).unused).0, map_length own))
acts_in_desk P room own (asking c hold index out) l = by_test (ltb c 16) (λ t. rw t (asked_in_desk P (get_or own hold none) index out)) (λ t. rw t kept)
acts_in_desk P room own (closing c hold) l = by_test (ltb c 16) (λ t. rw t (shut_in_desk (get_or own hold none) hold (λ p e. omega (arith, get_d_in own hold p e)))) (λ t. rw t kept)
acts_in_desk P room own tidying l = kept

-- Whose hold a call changes

pub owns_is : (c : ℕ) (call : Call) → owns c call ≡ true → customer call ≡ c
unfolding owns customer
owns_is c (opening d payload work) e = sym (eqb-true c d e)
owns_is c (asking d hold index out) e = sym (eqb-true c d e)
owns_is c (closing d hold) e = sym (eqb-true c d e)
owns_is c tidying e = absurd (no_true e)

module _ (P : Payloads) (room : Bool) (c : ℕ) where
  changed_other : (d : ℕ) (x : Change) (m : Model) → c ≢ d → InDesk x → desk c (changed d x m) ≡ desk c m
  unfolding changed
  changed_other d keep m n i = refl
  changed_other d (put h v) m n (within b) = desk_other c d h m v n b

  pub other_desk : (call : Call) (m : Model) → owns c call ≡ false → desk c (next P room m call) ≡ desk c m
  unfolding next acting owns customer
  other_desk (opening d payload work) m o = changed_other d (acts P room (desk d m) (opening d payload work)).change m (eqb-false c d o) (acts_in_desk P room (desk d m) (opening d payload work) (desk_length d m))
  other_desk (asking d hold index out) m o = changed_other d (acts P room (desk d m) (asking d hold index out)).change m (eqb-false c d o) (acts_in_desk P room (desk d m) (asking d hold index out) (desk_length d m))
  other_desk (closing d hold) m o = changed_other d (acts P room (desk d m) (closing d hold)).change m (eqb-false c d o) (acts_in_desk P room (desk d m) (closing d hold) (desk_length d m))
  other_desk tidying m o = unfold changed acts in refl
