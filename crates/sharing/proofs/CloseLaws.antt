-- What a close gives, one law for each way through it.
use Rattle.std.specs.Prelude.{Ok, Err}
use Prim.Native.Nat.{ℕ, suc, ◌+◌, ◌-◌, ◌*◌, ◌≤◌, ◌<◌}
use mathlib.Core.Bool.{Bool, true, false, not}
use mathlib.Core.List.{List}
use mathlib.Core.Path.{◌≡◌, refl, sym, ◌∙◌}
use native.Mathlib.Omega.{arith}
use borrow.Author.Rules.{rules}
use borrow.Author.Tests.{lt-ltb, le-ltb, leb-true, leb-false, not-true, not-false}
use lib.Dec.{leb}
use lib.ListN.{length, get_or}
use Rattle.format.specs.Laws.Outcomes.{by_test}
use Rattle.format.specs.declared.Refusal.{Refusal}
use Rattle.format.specs.declared.Reason.{Reason}
use Rattle.format.specs.declared.Reason.TheVariants.{NoCustomer, NotOpen, NotTheStore}
use Rattle.sharing.specs.Arrays.{table_of, Full}
use Rattle.sharing.specs.Calls.{releases, not_turned}
use Rattle.sharing.specs.Model.{desk, closed}
use Rattle.sharing.specs.Promises.{SharingClose}
use Rattle.sharing.specs.Step.{leaves, step, fitting, closed_at, lent}
use Rattle.sharing.specs.Table.{Table, length_fits}
use Rattle.sharing.specs.declared.Turned.{Turned}
use Rattle.sharing.specs.declared.Table.{Table as Arrays}
use Rattle.sharing.specs.Laws.Arrays.{filled}
use Rattle.sharing.proofs.HoldLaws.{entry_above}

pub not_turned_lem : (t : Arrays) (why : Reason) {x : Refusal} → x ≡ record { reason = why; offset = record { 0 = 0 } } → record { table = t; verdict = Err x } ≡ not_turned t why
not_turned_lem t why e = rw e refl

pub ruleset not_turning = (not_turned_lem, rules)

-- a hold that is open is one of eight
pub open_low : (l : List ℕ) (c h : ℕ) {e : ℕ} → e ≡ get_or (desk c l) h 0 → (e ≡ 0 → ⊥) → h < 8
open_low l c h e f = by_test (leb 8 h) (λ t. absurd (f (e ∙ sym (entry_above l c h (leb-true 8 h t))))) (λ t. leb-false 8 h t)

pub open_place : (l : List ℕ) (c h : ℕ) {e : ℕ} → c < 16 → e ≡ get_or (desk c l) h 0 → (e ≡ 0 → ⊥) → c * 8 + h < 128
open_place l c h k e f = omega (arith, open_low l c h e f)

closes_to : (t : Table) (s : List ℕ) (c h e b : ℕ) → e ≡ suc b → leaves (releases t (c * 8 + h) b) s closed ≡ closed_at t s c h e
unfolding closed_at
closes_to t s c h e b i = rw i refl

module _ (t : Arrays) (s : List ℕ) (c h : ℕ) {b : Bool} (f : b ≡ length_fits t.bytes (length s)) where
  pub close_store : {r : Turned} → not b ≡ true → r ≡ not_turned t NotTheStore → Full t → SharingClose t s c h r
  unfolding step lent
  close_store k e w = (rw (e, ← f, not-true b k) refl, rw e w)

  module _ (g : not b ≡ false) where
    pub close_nobody : {r : Turned} → 16 ≤ c → r ≡ not_turned t NoCustomer → Full t → SharingClose t s c h r
    unfolding step fitting
    close_nobody k e w = (rw (e, ← f, not-false b g, le-ltb c 16 k) refl, rw e w)

    module _ {x : ℕ} (l : c < 16) (i : x ≡ get_or (desk c t.holds) h 0) where
      pub close_shut : {r : Turned} → x ≡ 0 → r ≡ not_turned t NotOpen → Full t → SharingClose t s c h r
      unfolding step fitting closed_at
      close_shut z e w = (rw (e, ← f, not-false b g, lt-ltb c 16 l, ← i, z) refl, rw e w)

      pub close_done : (u : Arrays) → (x ≡ 0 → ⊥) → table_of u ≡ releases (table_of t) (c * 8 + h) (x - 1) → Full u → SharingClose t s c h (record { table = u; verdict = Ok tt })
      unfolding step fitting
      close_done u n e w = (rw (e, ← f, not-false b g, lt-ltb c 16 l, ← i) (closes_to (table_of t) s c h x (x - 1) (omega arith)), w)

pub ruleset closes = (filled, open_place, close_store, close_nobody, close_shut, close_done, rules)
