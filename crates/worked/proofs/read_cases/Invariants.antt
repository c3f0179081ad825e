use Rattle.std.specs.Prelude.{length, ◌≡◌, ◌≤◌, ◌+◌, ◌-◌}
use Rattle.worked.proofs.read_cases.Given as goal

abbrev pub invariant-loop-done : goal.invariant-loop-done
invariant-loop-done l = (l.done ≤ length l.room) × (length l.room ≡ length l.initial.room)

abbrev pub decreases-loop-done : goal.decreases-loop-done
decreases-loop-done l = (length l.room - l.done) + l.tries
