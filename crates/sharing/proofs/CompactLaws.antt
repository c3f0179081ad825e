-- K13: what the step gives, one law for each way through it.
use Rattle.std.specs.Prelude.{Ok}
use Prim.Native.Nat.{ℕ, ◌/◌}
use mathlib.Core.Bool.{Bool, true, false, not}
use mathlib.Core.List.{List}
use mathlib.Core.Path.{◌≡◌, refl}
use borrow.Author.Rules.{rules}
use borrow.Author.Tests.{not-true, not-false}
use lib.ListN.{length}
use Rattle.format.specs.declared.Reason.TheVariants.{Damaged, NotTheStore}
use Rattle.sharing.specs.Arrays.{marks_from, Full}
use Rattle.sharing.specs.Calls.{not_turned}
use Rattle.sharing.specs.Laws.Arrays.{filled}
use Rattle.sharing.specs.Packing.{UsedBlocks, PacksBlocks, TidiesTable}
use Rattle.sharing.specs.Promises.{SharingCompact}
use Rattle.sharing.specs.Step.{step, fitting, tidy, lent}
use Rattle.sharing.specs.Table.{length_fits, blocks, rows_right}
use Rattle.sharing.specs.declared.Turned.{Turned}
use Rattle.sharing.specs.declared.Table.{Table}
use Rattle.sharing.proofs.WholeLaws.{walks_over}

module _ (t : Table) (s : List ℕ) {b : Bool} (f : b ≡ length_fits t.bytes (length s)) where
  pub compact_store : {r : Turned} → not b ≡ true → r ≡ not_turned t NotTheStore → Full t → SharingCompact t s s r
  unfolding step lent
  compact_store k e w = (rw (e, ← f, not-true b k) refl, rw e w)

  module _ (g : not b ≡ false) {x : Bool} (h : x ≡ rows_right (marks_from t.users t.sizes) (blocks s)) where
    pub compact_damaged : {r : Turned} → not x ≡ true → r ≡ not_turned t Damaged → Full t → SharingCompact t s s r
    unfolding step fitting tidy
    compact_damaged k e w = (rw (e, ← f, not-false b g, ← h, not-true x k) refl, rw e w)

    pub compact_done : {used : List Bool} {u : Table} {new : List ℕ} → not x ≡ false → UsedBlocks t.users t.sizes s used → TidiesTable used (length s / 512) t u → PacksBlocks used s new → Full u → SharingCompact t s new (record { table = u; verdict = Ok tt })
    unfolding step fitting tidy
    compact_done k o p q w = (rw (← f, not-false b g, ← h, not-false x k, ← o.is, p.is, q.is) refl, w)

pub ruleset compacts = (filled, walks_over, compact_store, compact_damaged, compact_done, rules)
