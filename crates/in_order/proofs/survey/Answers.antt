use native.Mathlib.Omega.{arith}
use Prim.Native.Nat.{◌-◌, ◌<◌, ◌≤◌}
use Rattle.in_order.proofs.Surveying.{surveying}
use Rattle.in_order.proofs.survey.Goals as goal

pub loop-init : goal.loop-init
loop-init c = record { left = c.args.n; all = omega arith; holds = search surveying }

pub function_here-entry-requires : goal.function_here-entry-requires
function_here-entry-requires c = let t = c.loop.invariant in let h = t.holds in let some : 0 < t.left = omega (arith, t.all, c.loop-test.true) in search surveying

pub number_here-count-requires : goal.number_here-count-requires
number_here-count-requires c = let t = c.loop.invariant in let h = t.holds in let some : 0 < t.left = omega (arith, t.all, c.loop-test.true) in search surveying

pub survey_hints-hints-requires : goal.survey_hints-hints-requires
survey_hints-hints-requires c = let t = c.loop.invariant in let h = t.holds in let some : 0 < t.left = omega (arith, t.all, c.loop-test.true) in search surveying

pub overflow_add-kept : goal.overflow_add-kept
overflow_add-kept c = let t = c.loop.invariant in let h = t.holds in let some : 0 < t.left = omega (arith, t.all, c.loop-test.true) in search surveying

pub entry_length-length-requires : goal.entry_length-length-requires
entry_length-length-requires c = let t = c.loop.invariant in let h = t.holds in let some : 0 < t.left = omega (arith, t.all, c.loop-test.true) in search surveying

pub overflow_add-length : goal.overflow_add-length
overflow_add-length c = let t = c.loop.invariant in let h = t.holds in let some : 0 < t.left = omega (arith, t.all, c.loop-test.true) in search surveying

pub loop-preserved : goal.loop-preserved
loop-preserved c = let t = c.loop.invariant in let h = t.holds in let some : 0 < t.left = omega (arith, t.all, c.loop-test.true) in record { left = t.left - 1; all = omega (arith, t.all, c.loop-test.true); holds = search surveying }

pub returns : goal.returns
returns c = let t = c.loop.invariant in let h = t.holds in let none : t.left ≤ 0 = omega (arith, t.all, c.loop-test.false) in search surveying
