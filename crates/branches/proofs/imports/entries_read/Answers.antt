use native.Mathlib.Omega.{arith}
use Prim.Native.Nat.{◌-◌, ◌<◌, ◌≤◌}
use Rattle.branches.proofs.ImportSteps.{tallying}
use Rattle.branches.proofs.imports.entries_read.Goals as goal

pub loop-init : goal.loop-init
loop-init c = record { left = c.args.n; all = omega arith; holds = search tallying }

pub returns-in_err-kind : goal.returns-in_err-kind
returns-in_err-kind c = let t = c.loop.invariant in let h = t.holds in let some : 0 < t.left = omega (arith, t.all, c.loop-test.true) in search (c.in_err-kind.was, tallying)

pub loop-preserved : goal.loop-preserved
loop-preserved c = let t = c.loop.invariant in let h = t.holds in let some : 0 < t.left = omega (arith, t.all, c.loop-test.true) in record { left = t.left - 1; all = omega (arith, t.all, c.loop-test.true); holds = search tallying }

pub returns : goal.returns
returns c = let t = c.loop.invariant in let h = t.holds in let none : t.left ≤ 0 = omega (arith, t.all, c.loop-test.false) in search tallying
