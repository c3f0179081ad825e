-- A call changes the users of a payload by its granted open, or by its granted close.
use Rattle.std.specs.Prelude.{ℕ, zero, suc, ◌+◌, ◌-◌, ◌*◌, ◌<◌, ◌≡◌, Bool, List, [], ◌∷◌, map, ltb, length, get_or, drop}
use Rattle.std.proofs.Math.Path.{refl}
use Rattle.std.proofs.Common.{sym, ◌∙◌, arith, length-take, length-drop, get_or-take, get_or-drop}
use Rattle.std.proofs.Math.Bool.{true, false}
use Rattle.std.proofs.Math.Option.{none, some}
use Rattle.format.specs.Laws.Outcomes.{by_test}
use Rattle.sharing.specs.Laws.Blocks.{no_false}
use Rattle.sharing.specs.Model.{Payloads, Call, opening, asking, closing, tidying, desk, first_true, Front, stop, go, front, Entry, Model, vacant, Change, keep, put, room_for, opened, asked, shut, acts, customer, changed, acting, next}
use Rattle.sharing.specs.Laws.Isolation.{first_true_is, front_go, not_some}
use Rattle.sharing.specs.Laws.Users.{has, users_of, users_set}

-- a granted open of the payload
unfoldable pub opens_by : List ℕ → Change → ℕ
opens_by p keep = 0
opens_by p (put h none) = 0
opens_by p (put h (some q)) = has p (some q)

-- a granted close of a hold that has the payload
unfoldable pub closes_by : List ℕ → Model → ℕ → Change → ℕ
closes_by p m c keep = 0
closes_by p m c (put h none) = has p (get_or m (c * 8 + h) none)
closes_by p m c (put h (some q)) = 0

-- A change is made to a hold that there is; what is opened was unused
data Proper (m : Model) (c : ℕ) : Change → Type 0 where
  keeps : Proper m c keep
  opening_one : {h : ℕ} {q : List ℕ} → c * 8 + h < length m → get_or m (c * 8 + h) none ≡ none → Proper m c (put h (some q))
  closing_one : {h : ℕ} → c * 8 + h < length m → Proper m c (put h none)

one_change : (p : List ℕ) (m : Model) (c : ℕ) (x : Change) → Proper m c x → users_of p (changed c x m) + closes_by p m c x ≡ users_of p m + opens_by p x
unfolding changed opens_by closes_by has
one_change p m c keep keeps = omega arith
one_change p m c (put h (some q)) (opening_one b e) =
    let r = users_set p m (c * 8 + h) (some q) b in
    let z : has p (get_or m (c * 8 + h) none) ≡ 0 = rw e refl in
    omega arith
one_change p m c (put h none) (closing_one b) = omega (arith, users_set p m (c * 8 + h) none b)

place_of : (c h : ℕ) (l : Model) → h < length (desk c l) → (c * 8 + h < length l) × (get_or l (c * 8 + h) none ≡ get_or (desk c l) h none)
unfolding desk
place_of c h l b =
    let e = length-take 8 (drop (c * 8) l) in
    let f = length-drop (c * 8) l in
    let k : h < 8 = omega arith in
    (omega arith, sym (get_or-take 8 (drop (c * 8) l) h none k ∙ get_or-drop (c * 8) l h none))

vacant_is : (e : Entry) → vacant e ≡ true → e ≡ none
unfolding vacant
vacant_is none t = refl
vacant_is (some p) t = absurd (no_false (sym t))

pub first_vacant : (l : List Entry) (h : ℕ) → h < length (map vacant l) → get_or (map vacant l) h false ≡ true → (h < length l) × (get_or l h none ≡ none)
first_vacant [] h b e = absurd (omega arith)
first_vacant (x ∷ l) zero b e = (omega arith, vacant_is x e)
first_vacant (x ∷ l) (suc h) b e = let r = first_vacant l h (omega arith) e in (omega (arith, r.0), r.1)

held_in : (l : List Entry) (h : ℕ) (p : List ℕ) → get_or l h none ≡ some p → h < length l
held_in [] h p e = absurd (not_some e)
held_in (x ∷ l) zero p e = omega arith
held_in (x ∷ l) (suc h) p e = omega (arith, held_in l h p e)

module _ (P : Payloads) (room : Bool) (m : Model) (c : ℕ) where
  room_proper : (b : Bool) (q : List ℕ) (h : ℕ) (work : List ℕ) → c * 8 + h < length m → get_or m (c * 8 + h) none ≡ none → Proper m c (room_for b q h work).change
  unfolding room_for
  room_proper true q h work l e = opening_one l e
  room_proper false q h work l e = keeps

  open_proper : (work : List ℕ) (f : Front) → ((q : List ℕ) (h : ℕ) → f ≡ go q h → (c * 8 + h < length m) × (get_or m (c * 8 + h) none ≡ none)) → Proper m c (opened room work f).change
  unfolding opened
  open_proper work (stop n at) k = keeps
  open_proper work (go q h) k = let r = k q h refl in room_proper room q h work r.0 r.1

  shut_proper : (x : Entry) (h : ℕ) → ((p : List ℕ) → x ≡ some p → c * 8 + h < length m) → Proper m c (shut x h).change
  unfolding shut
  shut_proper none h k = keeps
  shut_proper (some p) h k = closing_one (k p refl)

  ask_proper : (x : Entry) (index : ℕ) (out : List ℕ) → Proper m c (asked P x index out).change
  unfolding asked
  ask_proper none index out = keeps
  ask_proper (some p) index out = keeps

acts_proper : (P : Payloads) (room : Bool) (m : Model) (call : Call) → Proper m (customer call) (acting P room m call).change
unfolding acting acts customer
acts_proper P room m (opening c payload work) = open_proper P room m c work (front P c (first_true (map vacant (desk c m))) payload work)
    (λ q h e. let i = first_true_is (map vacant (desk c m)) h (front_go P c (first_true (map vacant (desk c m))) payload work e).unused in
    let k = first_vacant (desk c m) h i.0 i.1 in
    let l = place_of c h m k.0 in
    (l.0, l.1 ∙ k.1))
acts_proper P room m (asking c hold index out) = by_test (ltb c 16) (λ t. rw t (ask_proper P room m c (get_or (desk c m) hold none) index out)) (λ t. rw t keeps)
acts_proper P room m (closing c hold) = by_test (ltb c 16) (λ t. rw t (shut_proper P room m c (get_or (desk c m) hold none) hold (λ p e. (place_of c hold m (held_in (desk c m) hold p e)).0))) (λ t. rw t keeps)
acts_proper P room m tidying = keeps

pub one_turn : (P : Payloads) (p : List ℕ) (room : Bool) (m : Model) (call : Call) → users_of p (next P room m call) + closes_by p m (customer call) (acting P room m call).change ≡ users_of p m + opens_by p (acting P room m call).change
unfolding next
one_turn P p room m call = one_change p m (customer call) (acting P room m call).change (acts_proper P room m call)
