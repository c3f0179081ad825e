use native.Mathlib.Omega.{arith}
use Prim.Native.Nat.{◌-◌, ◌<◌, ◌≤◌}
use Rattle.in_order.proofs.Listing.{listing_entries}
use Rattle.in_order.proofs.rows.put_rows.Goals as goal

pub loop-init : goal.loop-init
loop-init c = record { left = c.args.n; all = omega arith; holds = search listing_entries }

pub function_here-entry-requires : goal.function_here-entry-requires
function_here-entry-requires c = let t = c.loop.invariant in let h = t.holds in let some : 0 < t.left = omega (arith, t.all, c.loop-test.true) in search listing_entries

pub number_here-count-requires : goal.number_here-count-requires
number_here-count-requires c = let t = c.loop.invariant in let h = t.holds in let some : 0 < t.left = omega (arith, t.all, c.loop-test.true) in search listing_entries

pub put_hint_rows-put-requires : goal.put_hint_rows-put-requires
put_hint_rows-put-requires c = let t = c.loop.invariant in let h = t.holds in let some : 0 < t.left = omega (arith, t.all, c.loop-test.true) in search listing_entries

pub loop-preserved : goal.loop-preserved
loop-preserved c = let t = c.loop.invariant in let h = t.holds in let some : 0 < t.left = omega (arith, t.all, c.loop-test.true) in record { left = t.left - 1; all = omega (arith, t.all, c.loop-test.true); holds = search listing_entries }

pub returns : goal.returns
returns c = let t = c.loop.invariant in let h = t.holds in let none : t.left ≤ 0 = omega (arith, t.all, c.loop-test.false) in search listing_entries
