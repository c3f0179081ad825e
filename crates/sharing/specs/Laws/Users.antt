-- A row's users are the holds that have its payload in the model: the granted opens less the granted closes.
use Prim.Native.Nat.{ℕ, zero, suc, ◌+◌, ◌-◌, ◌<◌}
use Rattle.std.specs.Prelude.{◌≡◌, cond, length, get_or, set, replicate}
use Rattle.std.proofs.Math.Path.{refl, ap₂}
use Rattle.std.proofs.Common.{sym, ◌∙◌}
use Rattle.std.proofs.Math.Bool.{false}
use mathlib.Core.List.{List, [], ◌∷◌}
use Rattle.std.proofs.Math.Option.{none, some}
use native.Mathlib.Omega.{arith}
use Rattle.format.specs.Bytes.{same}
use Rattle.format.specs.Laws.Bytes.{same_self, same_true}
use Rattle.format.specs.Laws.Outcomes.{by_test}
use Rattle.sharing.specs.Laws.Blocks.{no_false}
use Rattle.sharing.specs.Model.{Payloads, Entry, Model}
use Rattle.sharing.specs.Laws.Shelf.{Shelf, At, at_payload}
use Rattle.sharing.specs.Laws.Holds.{hit, count, hit_same, hit_other, Led, empty, led, Leads, done, more}
use Rattle.sharing.specs.Laws.Standing.{Holding}

unfoldable pub has : List ℕ → Entry → ℕ
has p none = 0
has p (some q) = cond (same q p) 1 0

-- the holds of all customers that have this payload
unfoldable pub users_of : List ℕ → Model → ℕ
users_of p [] = 0
users_of p (e ∷ m) = has p e + users_of p m

-- one hold of the model changes: what it had goes, what it gets comes
pub users_set : (p : List ℕ) (m : Model) (i : ℕ) (e : Entry) → i < length m → users_of p (set m i e) + has p (get_or m i none) ≡ users_of p m + has p e
unfolding users_of
users_set p [] i e h = absurd (omega arith)
users_set p (x ∷ m) zero e h = omega arith
users_set p (x ∷ m) (suc i) e h = omega (arith, users_set p m i e (omega arith))

module _ (P : Payloads) (sh : Shelf) (hs : List ℕ) (m : Model) (w : Holding P sh hs m) where
  hit_has : {x : ℕ} {e : Entry} (b u : ℕ) (p : List ℕ) → At b p u sh → Led sh x e → hit (suc b) x ≡ has p e
  unfolding has
  hit_has b u p a empty = hit_other (suc b) 0 (λ e. omega arith)
  hit_has b u p a (led {b = d} {u = v} {p = q} c) = by_test (same q p)
      (λ t. let z : d ≡ b = w.alone d b v u p (rw (same_true q p t) at c) a in rw t (rw z (hit_same (suc b))))
      (λ t. rw t (hit_other (suc b) (suc d) (λ e. let z : d ≡ b = omega arith in let y : q ≡ p = (at_payload (rw z at c) a).0 in no_same q p y t)))
    where
      no_same : (q p : List ℕ) → q ≡ p → same q p ≡ false → ⊥
      no_same q p e t = no_false (sym (rw (← e) (same_self q)) ∙ t)

  count_users : {ks : List ℕ} {n : Model} (b u : ℕ) (p : List ℕ) → At b p u sh → Leads sh ks n → count (suc b) ks ≡ users_of p n
  unfolding count users_of
  count_users b u p a done = refl
  count_users b u p a (more k ls) = ap₂ ◌+◌ (hit_has b u p a k) (count_users b u p a ls)

  pub row_users : (b u : ℕ) (p : List ℕ) → At b p u sh → suc u ≡ users_of p m
  row_users b u p a = w.users b u p a ∙ count_users b u p a w.leads

-- a payload with no row has no users: its blocks are free
pub no_row : {sh : Shelf} {hs : List ℕ} {m : Model} (p : List ℕ) → ((b u : ℕ) → At b p u sh → ⊥) → Leads sh hs m → users_of p m ≡ 0
unfolding users_of has
no_row p f done = refl
no_row {sh} p f (more {e = e} k ls) = let z : has p e ≡ 0 = one f k in omega (arith, no_row p f ls)
  where
    one : {x : ℕ} {y : Entry} → ((b u : ℕ) → At b p u sh → ⊥) → Led sh x y → has p y ≡ 0
    one g empty = refl
    one g (led {b = b} {u = u} {p = q} a) = by_test (same q p) (λ t. absurd (g b u (rw (same_true q p t) at a))) (λ t. rw t refl)

-- nobody has a payload at the start
pub no_users : (p : List ℕ) (n : ℕ) → users_of p (replicate n none) ≡ 0
unfolding users_of has
no_users p zero = refl
no_users p (suc n) = omega (arith, no_users p n)
