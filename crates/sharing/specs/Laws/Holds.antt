-- Holds that lead to rows: how many lead to each, and what one changed hold does to that.
use Rattle.std.specs.Prelude.{ℕ, zero, suc, ◌+◌, ◌*◌, ◌≤◌, ◌<◌, ◌≡◌, Bool, cond, List, [], ◌∷◌, map, ◌≢◌, eqb, length, get_or, set, take, drop, replicate}
use Rattle.std.proofs.Math.Path.{refl}
use Rattle.std.proofs.Common.{ap₂, arith, eq-eqb, ne_eqb}
use Rattle.std.proofs.Math.Option.{none, some}
use Rattle.std.proofs.Math.Dec.{eqb-suc-zero}
use Rattle.format.specs.Laws.Outcomes.{by_test}
use Rattle.sharing.specs.Model.{Entry, Model, vacant, desk}
use Rattle.sharing.specs.Step.{unused}
use Rattle.sharing.specs.Laws.Shelf.{Shelf, At}

-- Counting

unfoldable pub hit : ℕ → ℕ → ℕ
hit x y = cond (eqb y x) 1 0

unfoldable pub count : ℕ → List ℕ → ℕ
count x [] = 0
count x (y ∷ l) = hit x y + count x l

pub hit_same : (x : ℕ) → hit x x ≡ 1
unfolding hit
hit_same x = rw (eq-eqb x x refl)

pub hit_other : (x y : ℕ) → y ≢ x → hit x y ≡ 0
unfolding hit
hit_other x y n = rw (ne_eqb y x n)

hit_small : (x y : ℕ) → hit x y ≤ 1
unfolding hit
hit_small x y = by_test (eqb y x) (λ t. rw t (omega arith)) (λ t. rw t (omega arith))

pub count_small : (x : ℕ) (l : List ℕ) → count x l ≤ length l
unfolding count
count_small x [] = omega arith
count_small x (y ∷ l) = omega (arith, hit_small x y, count_small x l)

pub count_set : (x : ℕ) (l : List ℕ) (i v : ℕ) → i < length l → count x (set l i v) + hit x (get_or l i 0) ≡ count x l + hit x v
unfolding count
count_set x [] i v h = absurd (omega arith)
count_set x (y ∷ l) zero v h = omega arith
count_set x (y ∷ l) (suc i) v h = omega (arith, count_set x l i v (omega arith))

pub count_zeros : (b n : ℕ) → count (suc b) (replicate n 0) ≡ 0
unfolding count
count_zeros b zero = refl
count_zeros b (suc n) = omega (arith, count_zeros b n, hit_other (suc b) 0 (λ e. omega arith))

-- A hold and what the model has there

pub data Led (sh : Shelf) : ℕ → Entry → Type 0 where
  empty : Led sh 0 none
  led : {b u : ℕ} {p : List ℕ} → At b p u sh → Led sh (suc b) (some p)

pub data Leads (sh : Shelf) : List ℕ → Model → Type 0 where
  done : Leads sh [] []
  more : {x : ℕ} {e : Entry} {hs : List ℕ} {m : Model} → Led sh x e → Leads sh hs m → Leads sh (x ∷ hs) (e ∷ m)

module _ {sh : Shelf} where
  pub leads_set : {hs : List ℕ} {m : Model} {x : ℕ} {e : Entry} (i : ℕ) → Led sh x e → Leads sh hs m → Leads sh (set hs i x) (set m i e)
  leads_set i l done = done
  leads_set zero l (more k ls) = more l ls
  leads_set (suc i) l (more k ls) = more k (leads_set i l ls)

  pub leads_get_d : {hs : List ℕ} {m : Model} (i : ℕ) → Leads sh hs m → Led sh (get_or hs i 0) (get_or m i none)
  leads_get_d i done = empty
  leads_get_d zero (more k ls) = k
  leads_get_d (suc i) (more k ls) = leads_get_d i ls

  leads_take : {hs : List ℕ} {m : Model} (n : ℕ) → Leads sh hs m → Leads sh (take n hs) (take n m)
  leads_take zero ls = done
  leads_take (suc n) done = done
  leads_take (suc n) (more k ls) = more k (leads_take n ls)

  leads_drop : {hs : List ℕ} {m : Model} (n : ℕ) → Leads sh hs m → Leads sh (drop n hs) (drop n m)
  leads_drop zero ls = ls
  leads_drop (suc n) done = done
  leads_drop (suc n) (more k ls) = leads_drop n ls

  pub leads_desk : {hs : List ℕ} {m : Model} (c : ℕ) → Leads sh hs m → Leads sh (desk c hs) (desk c m)
  unfolding desk
  leads_desk c ls = leads_take 8 (leads_drop (c * 8) ls)

  led_vacant : {x : ℕ} {e : Entry} → Led sh x e → unused x ≡ vacant e
  unfolding unused vacant
  led_vacant empty = refl
  led_vacant (led {b = b} a) = eqb-suc-zero b

  pub leads_vacant : {hs : List ℕ} {m : Model} → Leads sh hs m → map unused hs ≡ map vacant m
  leads_vacant done = refl
  leads_vacant (more k ls) = ap₂ (λ (t : Bool) (l : List Bool). t ∷ l) (led_vacant k) (leads_vacant ls)

-- the holds lead on where each row that a hold leads to stands again
abbrev pub Again : List ℕ → Shelf → Shelf → Type 0
Again hs sh to = (b u : ℕ) (p : List ℕ) → 0 < count (suc b) hs → At b p u sh → (v : ℕ) × At b p v to

pub leads_again : {sh to : Shelf} {hs : List ℕ} {m : Model} → Again hs sh to → Leads sh hs m → Leads to hs m
unfolding count
leads_again f done = done
leads_again {sh} {to} f (more {x = x} {hs = hs} k ls) = more (one (λ b u p e a. let z : hit (suc b) x ≡ 1 = rw e (hit_same (suc b)) in f b u p (omega arith) a) k) (leads_again (λ b u p h. f b u p (omega arith)) ls)
  where
    one : {y : ℕ} {e : Entry} → ((b u : ℕ) (p : List ℕ) → y ≡ suc b → At b p u sh → (v : ℕ) × At b p v to) → Led sh y e → Led to y e
    one g empty = empty
    one g (led {b = b} {u = u} {p = p} a) = led (g b u p refl a).1

-- no hold leads to a place where no row stands
pub uncounted : {sh : Shelf} {hs : List ℕ} {m : Model} (b : ℕ) → ((u : ℕ) (p : List ℕ) → At b p u sh → ⊥) → Leads sh hs m → count (suc b) hs ≡ 0
unfolding count
uncounted b f done = refl
uncounted {sh} b f (more {x = x} {hs = hs} k ls) = let z : hit (suc b) x ≡ 0 = one f k in omega (arith, uncounted b f ls)
  where
    one : {y : ℕ} {e : Entry} → ((u : ℕ) (p : List ℕ) → At b p u sh → ⊥) → Led sh y e → hit (suc b) y ≡ 0
    one g empty = hit_other (suc b) 0 (λ e. omega arith)
    one g (led {b = d} {u = u} {p = p} a) = hit_other (suc b) (suc d) (λ e. let z : d ≡ b = omega arith in g u p (rw z at a))
