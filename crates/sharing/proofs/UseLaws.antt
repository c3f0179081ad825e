-- What is refused where all holds are in use, and the whole open.
use Rattle.std.specs.Prelude.{Err, Ok}
use Prim.Native.Nat.{ℕ, ◌≤◌, ◌<◌}
use mathlib.Core.List.{List}
use mathlib.Core.Path.{◌≡◌, refl, ap}
use native.Mathlib.Omega.{arith}
use borrow.Author.Rules.{rules}
use borrow.Author.Tests.{leb-true, le-leb, lt-leb}
use lib.ListN.{length}
use Rattle.format.specs.Canonical.{canonical_names, rewrite_names}
use Rattle.format.specs.Names.{known_kind, judge_names}
use Rattle.format.specs.Outputs.{Writes}
use Rattle.format.specs.Reading.{accepted, map_judged, verdict}
use Rattle.format.specs.Refusals.{number_of}
use Rattle.format.specs.Verdicts.{verdict_of}
use Rattle.format.specs.declared.Reason.TheVariants.{HoldsInUse}
use Rattle.format.specs.declared.Refusal.{Refusal}
use Rattle.format.specs.Returned.{Verdict, Written}
use Rattle.format.proofs.Tags.{judged_refused, judged_accepted}
use Rattle.sharing.specs.Calls.{InUse}
use Rattle.sharing.specs.Model.{with_work, with_hold}
use Rattle.sharing.proofs.OpenLaws.{Outcome, outcome, whole, short}

abbrev pub in_use : Refusal
in_use = record { reason = HoldsInUse; offset = record { 0 = 0 } }

whole_fits : {old new q : List ℕ} {n : ℕ} → Outcome old new (accepted q) (Ok n) → length q ≤ length old
whole_fits {old} (whole q l e) = leb-true (length q) (length old) l

needed : {old new q : List ℕ} {y : Refusal} → Outcome old new (accepted q) (Err y) → (number_of y.reason ≡ 13) × (y.offset.0 ≡ length q)
needed (short q y l e n a) = (n, a)

module _ (p : List ℕ) (room : ℕ) (v : Verdict) (says : verdict_of v ≡ verdict (judge_names known_kind 0 p)) where
  pub use_refused : {r : Refusal} → v ≡ Err r → InUse p room r
  unfolding canonical_names with_work
  use_refused h = let j = judged_refused v (judge_names known_kind 0 p) says h in record { is = λ work l. rw j refl }

  is_canonical : v ≡ Ok tt → (q : List ℕ) × (canonical_names known_kind p ≡ accepted q)
  unfolding canonical_names
  is_canonical h = let a = judged_accepted v (judge_names known_kind 0 p) says h in (rewrite_names a.0, ap (map_judged rewrite_names) a.1)

  in_use_if : (q : List ℕ) → canonical_names known_kind p ≡ accepted q → length q ≤ room → InUse p room in_use
  unfolding with_work with_hold
  in_use_if q e l = record { is = λ work i. rw (e, le-leb (length q) (length work) (omega arith)) refl }

  short_if : (q : List ℕ) (r : Refusal) → canonical_names known_kind p ≡ accepted q → room < length q → number_of r.reason ≡ 13 → r.offset.0 ≡ length q → InUse p room r
  unfolding with_work
  short_if q r e l n a = record { is = λ work i. rw (e, lt-leb (length q) (length work) (omega arith), n, a) refl }

  module _ (h : v ≡ Ok tt) {old new : List ℕ} (x : Written) (w : Writes (canonical_names known_kind p) old new x) where
    of_it : Outcome old new (accepted (is_canonical h).0) x
    of_it = rw (is_canonical h).1 at (outcome (canonical_names known_kind p) x w)

    pub use_fits : {r : Refusal} {n : ℕ} → length old ≡ 0 → x ≡ Ok n → r ≡ in_use → InUse p room r
    use_fits z g e = rw e (in_use_if (is_canonical h).0 (is_canonical h).1 (omega (arith, whole_fits (rw g at of_it))))

    pub use_short : {y : Refusal} → x ≡ Err y → room < y.offset.0 → InUse p room y
    use_short {y} g l = let k = needed (rw g at of_it) in short_if (is_canonical h).0 y (is_canonical h).1 (omega (arith, k.1)) k.0 k.1

    pub use_room : {y r : Refusal} → x ≡ Err y → y.offset.0 ≤ room → r ≡ in_use → InUse p room r
    use_room {y} g l e = let k = needed (rw g at of_it) in rw e (in_use_if (is_canonical h).0 (is_canonical h).1 (omega (arith, k.1)))

pub ruleset uses = (use_refused, use_fits, use_short, use_room, rules)
