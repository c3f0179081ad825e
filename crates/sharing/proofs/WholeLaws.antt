-- What an open gives, one law for each way through it.
use Rattle.std.specs.Prelude.{Err}
use Prim.Native.Nat.{ℕ, ◌%◌, ◌≤◌, ◌<◌}
use mathlib.Core.Bool.{Bool, true, false, not}
use mathlib.Core.List.{List}
use mathlib.Core.Path.{◌≡◌, refl, sym, ◌∙◌}
use borrow.Author.Rules.{rules}
use borrow.Author.Tests.{lt-ltb, le-ltb, leb-true, eqb-true, not-true, not-false}
use lib.Dec.{eqb, ltb, leb}
use lib.ListN.{length}
use Rattle.format.specs.Laws.Outcomes.{on_both}
use Rattle.format.specs.declared.Reason.TheVariants.{NoCustomer, NotTheStore}
use Rattle.format.specs.declared.Refusal.{Refusal}
use Rattle.sharing.specs.Arrays.{Full}
use Rattle.sharing.specs.Calls.{Seat, LowestUnused, OpensUnused, InUse, unopened}
use Rattle.sharing.specs.Laws.Arrays.{filled}
use Rattle.sharing.specs.Marks.{Walkable}
use Rattle.sharing.specs.Model.{front}
use Rattle.sharing.specs.Named.{names}
use Rattle.sharing.specs.Promises.{SharingOpen}
use Rattle.sharing.specs.Step.{step, fitting, opened_in, lent}
use Rattle.sharing.specs.Table.{length_fits}
use Rattle.sharing.specs.declared.Opened.{Opened}
use Rattle.sharing.specs.declared.Table.{Table}

pub sits : {c h : ℕ} → c < 16 → h < 8 → Seat c h
sits k l = record { there = k; low = l }

pub walks_few : (bytes : ℕ) (s : List ℕ) → length_fits bytes (length s) ≡ true → length s ≤ 65536
unfolding length_fits
walks_few bytes s e =
    on_both (eqb (length s) bytes) _ e λ _ x.
    on_both (eqb (length s % 512) 0) _ x λ _ y.
    on_both (ltb 0 (length s)) (leb (length s) 65536) y λ _ l. leb-true (length s) 65536 l

pub walks_over : {us ns s : List ℕ} (bytes : ℕ) {b : Bool} → length us ≡ 128 → length ns ≡ 128 → b ≡ length_fits bytes (length s) → not b ≡ false → Walkable us ns s
unfolding length_fits
walks_over {s = s} bytes {b} u n f g =
    on_both (eqb (length s) bytes) _ (sym f ∙ not-false b g) λ _ x.
    on_both (eqb (length s % 512) 0) _ x λ d y.
    on_both (ltb 0 (length s)) (leb (length s) 65536) y λ _ l.
    record { users_long = u; sizes_long = n; few = leb-true (length s) 65536 l; whole = eqb-true (length s % 512) 0 d }

module _ (t : Table) (s : List ℕ) (c : ℕ) (p w : List ℕ) {b : Bool} (f : b ≡ length_fits t.bytes (length s)) where
  pub open_store : {r : Opened} → not b ≡ true → r ≡ unopened t NotTheStore → Full t → SharingOpen t s c p w s w r
  unfolding step lent
  open_store k e full = (rw (e, ← f, not-true b k) refl, rw e full)

  module _ (g : not b ≡ false) where
    pub open_nobody : {r : Opened} → 16 ≤ c → r ≡ unopened t NoCustomer → Full t → SharingOpen t s c p w s w r
    unfolding step fitting front opened_in
    open_nobody k e full = (rw (e, ← f, not-false b g, le-ltb c 16 k) refl, rw e full)

    module _ (l : c < 16) {h : ℕ} (i : LowestUnused t.holds c h) where
      pub open_one : {after left : List ℕ} {r : Opened} → h < 8 → OpensUnused t s c h p w after left r → Full r.table → SharingOpen t s c p w after left r
      unfolding step fitting front names
      open_one m o full = (o.is ∙ sym (rw (← f, not-false b g, lt-ltb c 16 l, i.is, lt-ltb h 8 m) refl), full)

      pub open_all : {x : Refusal} → 8 ≤ h → InUse p (length w) x → Full t → SharingOpen t s c p w s w (record { table = t; answer = Err x })
      unfolding step fitting front names opened_in
      open_all m o full = (sym (rw (← f, not-false b g, lt-ltb c 16 l, i.is, le-ltb h 8 m, o.is w refl) refl), full)

pub ruleset opens = (filled, sits, walks_over, open_store, open_nobody, open_one, open_all, rules)
