use native.Mathlib.Omega.{arith}
use Prim.Native.Nat.{◌-◌}
use Rattle.tables.proofs.JudgeSteps.{judged_turns}
use Rattle.tables.proofs.judging.rows.Goals as goal

pub loop-init : goal.loop-init
loop-init c = record { left = c.args.n; all = omega arith; holds = search judged_turns }

pub loop-preserved : goal.loop-preserved
loop-preserved c = let t = c.loop.invariant in record { left = t.left - 1; all = omega (arith, t.all, c.loop-test.true); holds = search judged_turns }

pub returns : goal.returns
returns c = let t = c.loop.invariant in search judged_turns

pub returns-in_err-k : goal.returns-in_err-k
returns-in_err-k c = let t = c.loop.invariant in search (c.in_err-k.was, judged_turns)
