use native.Mathlib.Omega.{arith}
use Prim.Native.Nat.{◌-◌, ◌<◌, ◌≤◌}
use Rattle.in_order.proofs.Listing.{surveying_rows}
use Rattle.in_order.proofs.rows.survey_rows.Goals as goal

pub loop-init : goal.loop-init
loop-init c = record { left = c.args.n; all = omega arith; holds = search surveying_rows }

pub function_here-entry-requires : goal.function_here-entry-requires
function_here-entry-requires c = let t = c.loop.invariant in let h = t.holds in let some : 0 < t.left = omega (arith, t.all, c.loop-test.true) in search surveying_rows

pub number_here-count-requires : goal.number_here-count-requires
number_here-count-requires c = let t = c.loop.invariant in let h = t.holds in let some : 0 < t.left = omega (arith, t.all, c.loop-test.true) in search surveying_rows

pub survey_hints-hints-requires : goal.survey_hints-hints-requires
survey_hints-hints-requires c = let t = c.loop.invariant in let h = t.holds in let some : 0 < t.left = omega (arith, t.all, c.loop-test.true) in search surveying_rows

pub overflow_add-rows : goal.overflow_add-rows
overflow_add-rows c = let t = c.loop.invariant in let h = t.holds in let some : 0 < t.left = omega (arith, t.all, c.loop-test.true) in search surveying_rows

pub loop-preserved : goal.loop-preserved
loop-preserved c = let t = c.loop.invariant in let h = t.holds in let some : 0 < t.left = omega (arith, t.all, c.loop-test.true) in record { left = t.left - 1; all = omega (arith, t.all, c.loop-test.true); holds = search surveying_rows }

pub returns : goal.returns
returns c = let t = c.loop.invariant in let h = t.holds in let none : t.left ≤ 0 = omega (arith, t.all, c.loop-test.false) in search surveying_rows
