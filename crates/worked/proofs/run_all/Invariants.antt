use Rattle.std.specs.Prelude.{length, ◌≤◌, ◌+◌, ◌-◌}
use Rattle.worked.proofs.run_all.Given as goal

abbrev pub invariant-loop-at : goal.invariant-loop-at
invariant-loop-at l = l.at ≤ length l.cases + 1

abbrev pub decreases-loop-at : goal.decreases-loop-at
decreases-loop-at l = length l.cases - l.at
