use Prim.Native.Nat.{◌<◌}
use native.Mathlib.Omega.{arith}
use Prim.Native.Nat.{◌-◌}
use Rattle.instructions.proofs.LocalSteps.{counting}
use Rattle.instructions.proofs.locals.groups.Goals as goal

pub loop-init : goal.loop-init
loop-init c = record { left = c.args.n; all = omega arith; holds = search counting }

pub returns-in_default : goal.returns-in_default
returns-in_default c = let t = c.loop.invariant in search counting

pub returns-then-all-ge-TOO_MANY : goal.returns-then-all-ge-TOO_MANY
returns-then-all-ge-TOO_MANY c = let t = c.loop.invariant in search counting

pub byte_of-requires : goal.byte_of-requires
byte_of-requires c = let t = c.loop.invariant in search counting

pub returns-in_err-next : goal.returns-in_err-next
returns-in_err-next c = let t = c.loop.invariant in search (c.in_err-next.ensures, counting)

pub loop-preserved : goal.loop-preserved
loop-preserved c = let t = c.loop.invariant in let h = t.holds in let some : 0 < t.left = omega (arith, t.all, c.loop-test.true) in record { left = t.left - 1; all = omega (arith, t.all, c.loop-test.true); holds = search (c.in_ok-next.ensures, counting) depth 8 fits 4000 }

pub returns : goal.returns
returns c = let t = c.loop.invariant in search counting
