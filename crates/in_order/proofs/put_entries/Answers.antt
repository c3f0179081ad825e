use native.Mathlib.Omega.{arith}
use Prim.Native.Nat.{◌-◌, ◌<◌, ◌≤◌}
use Rattle.in_order.proofs.Putting.{putting_entries}
use Rattle.in_order.proofs.put_entries.Goals as goal

pub loop-init : goal.loop-init
loop-init c = record { left = c.args.n; all = omega arith; holds = search putting_entries }

pub function_here-entry-requires : goal.function_here-entry-requires
function_here-entry-requires c = let t = c.loop.invariant in let h = t.holds in let some : 0 < t.left = omega (arith, t.all, c.loop-test.true) in search putting_entries

pub number_here-count-requires : goal.number_here-count-requires
number_here-count-requires c = let t = c.loop.invariant in let h = t.holds in let some : 0 < t.left = omega (arith, t.all, c.loop-test.true) in search putting_entries

pub put_entry-put-requires : goal.put_entry-put-requires
put_entry-put-requires c = let t = c.loop.invariant in let h = t.holds in let some : 0 < t.left = omega (arith, t.all, c.loop-test.true) in search putting_entries

pub loop-preserved : goal.loop-preserved
loop-preserved c = let t = c.loop.invariant in let h = t.holds in let some : 0 < t.left = omega (arith, t.all, c.loop-test.true) in record { left = t.left - 1; all = omega (arith, t.all, c.loop-test.true); holds = search putting_entries }

pub returns : goal.returns
returns c = let t = c.loop.invariant in let h = t.holds in let none : t.left ≤ 0 = omega (arith, t.all, c.loop-test.false) in search putting_entries
