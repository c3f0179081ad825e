use Rattle.std.specs.Prelude.{length, ◌≤◌, ◌+◌, ◌-◌}
use Rattle.worked.proofs.pieces.which.Given as goal

abbrev pub invariant-loop-at : goal.invariant-loop-at
invariant-loop-at l = (l.count ≤ l.at) × (l.at ≤ length l.list + 1)

abbrev pub decreases-loop-at : goal.decreases-loop-at
decreases-loop-at l = length l.list - l.at
