use native.Mathlib.Omega.{arith}
use Prim.Native.Nat.{◌-◌, ◌<◌, ◌≤◌}
use Rattle.branches.proofs.HintSteps.{sitting}
use Rattle.branches.proofs.hints.hints_from.Goals as goal

pub loop-init : goal.loop-init
loop-init c = record { left = c.args.n; all = omega arith; holds = search sitting }

pub number_here-offset-requires : goal.number_here-offset-requires
number_here-offset-requires c = let t = c.loop.invariant in let h = t.holds in let some : 0 < t.left = omega (arith, t.all, c.loop-test.true) in search sitting

pub part_here-hint-requires : goal.part_here-hint-requires
part_here-hint-requires c = let t = c.loop.invariant in let h = t.holds in let some : 0 < t.left = omega (arith, t.all, c.loop-test.true) in search sitting

pub returns-in-Unreadable : goal.returns-in-Unreadable
returns-in-Unreadable c = let t = c.loop.invariant in let h = t.holds in let some : 0 < t.left = omega (arith, t.all, c.loop-test.true) in search sitting

pub returns-in-Elsewhere : goal.returns-in-Elsewhere
returns-in-Elsewhere c = let t = c.loop.invariant in let h = t.holds in let some : 0 < t.left = omega (arith, t.all, c.loop-test.true) in search sitting

pub loop-preserved : goal.loop-preserved
loop-preserved c = let t = c.loop.invariant in let h = t.holds in let some : 0 < t.left = omega (arith, t.all, c.loop-test.true) in record { left = t.left - 1; all = omega (arith, t.all, c.loop-test.true); holds = search sitting }

pub returns : goal.returns
returns c = let t = c.loop.invariant in let h = t.holds in let none : t.left ≤ 0 = omega (arith, t.all, c.loop-test.false) in search sitting
