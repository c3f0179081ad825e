-- What is said tells answers apart: two results that meet one promise are equal.
use Rattle.std.specs.Prelude.{Result, Ok, Err, Some, None}
use Prim.Native.Nat.{ℕ}
use mathlib.Core.Path.{◌≡◌, refl, sym, ap}
use native.Mathlib.Omega.{arith}
use Rattle.format.specs.Why.{Why as AnyWhy, named, no_subsection, no_group, no_entry}
use Rattle.format.specs.Laws.Options.{not_some, some_is}
use Rattle.format.specs.Laws.Outcomes.{not_accepted, accepted_is}
use Rattle.format.specs.Laws.Refusals.{same_judgement}
use Rattle.format.specs.declared.Refusal.{Refusal}
use Rattle.neighbours.specs.Maps.{near_meant, reason_meant, why_meant}
use Rattle.neighbours.specs.Returned.{Neighbour}
use Rattle.neighbours.specs.declared.Why.{Why}
use Rattle.neighbours.specs.declared.Why.TheVariants.{Named, NoSubsection, NoGroup, NoEntry}

near_same : (a b : Neighbour) → near_meant a ≡ near_meant b → a ≡ b
near_same None None e = refl
near_same None (Some k) e = absurd (not_some e)
near_same (Some k) None e = absurd (not_some (sym e))
near_same (Some k) (Some j) e = ap Some (some_is e)

-- which of the four it is
abbrev form : AnyWhy → ℕ
form (named id n) = 0
form no_subsection = 1
form no_group = 2
form (no_entry b a) = 3

reason_same : (a b : Why) → reason_meant a ≡ reason_meant b → a ≡ b
reason_same (Named id n) (Named id' n') e = let f : id ≡ id' = cc in let g : n ≡ n' = cc in λ i. Named (f i) (g i)
reason_same (Named id n) NoSubsection e = absurd (omega (arith, ap form e))
reason_same (Named id n) NoGroup e = absurd (omega (arith, ap form e))
reason_same (Named id n) (NoEntry b a) e = absurd (omega (arith, ap form e))
reason_same NoSubsection (Named id n) e = absurd (omega (arith, ap form e))
reason_same NoSubsection NoSubsection e = refl
reason_same NoSubsection NoGroup e = absurd (omega (arith, ap form e))
reason_same NoSubsection (NoEntry b a) e = absurd (omega (arith, ap form e))
reason_same NoGroup (Named id n) e = absurd (omega (arith, ap form e))
reason_same NoGroup NoSubsection e = absurd (omega (arith, ap form e))
reason_same NoGroup NoGroup e = refl
reason_same NoGroup (NoEntry b a) e = absurd (omega (arith, ap form e))
reason_same (NoEntry b a) (Named id n) e = absurd (omega (arith, ap form e))
reason_same (NoEntry b a) NoSubsection e = absurd (omega (arith, ap form e))
reason_same (NoEntry b a) NoGroup e = absurd (omega (arith, ap form e))
reason_same (NoEntry b a) (NoEntry b' a') e = let f = near_same b b' cc in let g = near_same a a' cc in λ i. NoEntry (f i) (g i)

pub why_same : (a b : Result Why Refusal) → why_meant a ≡ why_meant b → a ≡ b
why_same (Ok v) (Ok w) e = ap Ok (reason_same v w (accepted_is e))
why_same (Ok v) (Err r) e = absurd (not_accepted (sym e))
why_same (Err r) (Ok w) e = absurd (not_accepted e)
why_same (Err r) (Err s) e = ap Err (same_judgement e)
