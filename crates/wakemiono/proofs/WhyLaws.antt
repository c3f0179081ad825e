-- K7: the boundary says what `neighbours` says.
use Rattle.std.specs.Prelude.{Result, Ok, Err, Some, None}
use Prim.Native.Nat.{ℕ}
use mathlib.Core.Path.{◌≡◌, ap, ◌∙◌}
use borrow.Author.Rules.{rules}
use Rattle.format.specs.Reading.{Judged}
use Rattle.format.specs.Refusals.{number_of}
use Rattle.format.specs.Why.{Why as AnyWhy}
use Rattle.format.specs.declared.Refusal.{Refusal}
use Rattle.neighbours.specs.Maps.{near_meant, reason_meant, why_meant}
use Rattle.neighbours.specs.Returned.{Neighbour}
use Rattle.neighbours.specs.declared.Why.{Why}
use Rattle.neighbours.specs.declared.Why.TheVariants.{Named, NoSubsection, NoGroup, NoEntry}
use Rattle.wakemiono.specs.Why.{wm_side, wm_alone, wm_named, wm_no_entry, wm_why_refused, wm_reason, wm_why}
use Rattle.wakemiono.specs.declared.why.Side.{Side}
use Rattle.wakemiono.specs.declared.why.WmWhy.{WmWhy}

-- a neighbour
pub side_none : (n : Neighbour) → n ≡ None → record { has = 0; index = 0 } ≡ wm_side (near_meant n)
side_none n e = rw e

pub side_is : (n : Neighbour) {k : ℕ} → n ≡ Some k → record { has = 1; index = k } ≡ wm_side (near_meant n)
side_is n e = rw e

-- the fields
pub sides_are : (below above : Neighbour) (under over : Side) → under ≡ wm_side (near_meant below) → over ≡ wm_side (near_meant above) → record { kind = 7; code = 0; offset = 0; position = 0; has_below = under.has; below = under.index; has_above = over.has; above = over.index } ≡ wm_no_entry (near_meant below) (near_meant above)
sides_are below above under over e q = rw (e, q)

pub number_is : (r : Refusal) {n : ℕ} → n ≡ number_of r.reason → record { kind = 2; code = n; offset = r.offset.0; position = 0; has_below = 0; below = 0; has_above = 0; above = 0 } ≡ wm_why_refused (number_of r.reason) r.offset.0
number_is r e = rw e

-- a reason
module _ {w : Why} {a : WmWhy} where
  pub reason_named : {id n : ℕ} → w ≡ Named id n → a ≡ wm_named id n → a ≡ wm_reason (reason_meant w)
  reason_named e q = rw e q

  pub reason_no_subsection : w ≡ NoSubsection → a ≡ wm_alone 5 → a ≡ wm_reason (reason_meant w)
  reason_no_subsection e q = rw e q

  pub reason_no_group : w ≡ NoGroup → a ≡ wm_alone 6 → a ≡ wm_reason (reason_meant w)
  reason_no_group e q = rw e q

  pub reason_no_entry : {below above : Neighbour} → w ≡ NoEntry below above → a ≡ wm_no_entry (near_meant below) (near_meant above) → a ≡ wm_reason (reason_meant w)
  reason_no_entry e q = rw e q

-- an answer
module _ {x : Result Why Refusal} {a : WmWhy} where
  pub why_refused : {r : Refusal} → x ≡ Err r → a ≡ wm_why_refused (number_of r.reason) r.offset.0 → a ≡ wm_why (why_meant x)
  why_refused e q = rw e q

  pub why_told : {w : Why} → x ≡ Ok w → a ≡ wm_reason (reason_meant w) → a ≡ wm_why (why_meant x)
  why_told e q = rw e q

-- and so does each call
pub says_why_lem : (a : WmWhy) (x y : Judged AnyWhy) → a ≡ wm_why x → x ≡ y → a ≡ wm_why y
says_why_lem a x y e q = e ∙ ap wm_why q

pub ruleset whys = (side_none, side_is, sides_are, number_is, reason_named, reason_no_subsection, reason_no_group, reason_no_entry, why_refused, why_told, says_why_lem, rules)
