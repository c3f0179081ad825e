use native.Mathlib.Omega.{arith}
use Prim.Native.Nat.{◌-◌, ◌<◌, ◌≤◌}
use Rattle.branches.proofs.BodySteps.{body_turns}
use Rattle.branches.proofs.bodies.bodies_read.Goals as goal

pub loop-init : goal.loop-init
loop-init c = record { left = c.args.n; all = omega arith; holds = search body_turns }

pub returns-in_err-after : goal.returns-in_err-after
returns-in_err-after c = let t = c.loop.invariant in let h = t.holds in let some : 0 < t.left = omega (arith, t.all, c.loop-test.true) in search (c.in_err-after.was, body_turns)

pub loop-preserved : goal.loop-preserved
loop-preserved c = let t = c.loop.invariant in let h = t.holds in let some : 0 < t.left = omega (arith, t.all, c.loop-test.true) in record { left = t.left - 1; all = omega (arith, t.all, c.loop-test.true); holds = search (c.in_ok-after.ensures, body_turns) }

pub returns : goal.returns
returns c = let t = c.loop.invariant in let h = t.holds in let none : t.left ≤ 0 = omega (arith, t.all, c.loop-test.false) in search body_turns
