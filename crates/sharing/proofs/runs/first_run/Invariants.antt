use Prim.Native.Nat.{◌-◌}
use Rattle.sharing.proofs.RunLaws.{Running}
use Rattle.sharing.proofs.runs.first_run.Given as goal

abbrev pub invariant-loop-b : goal.invariant-loop-b
invariant-loop-b l = Running l.users l.sizes l.store l.wanted l.b l.cover l.free

abbrev pub decreases-loop-b : goal.decreases-loop-b
decreases-loop-b l = l.blocks - l.b
