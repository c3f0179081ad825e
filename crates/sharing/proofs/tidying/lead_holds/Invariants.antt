use Prim.Native.Nat.{◌-◌}
use Rattle.sharing.proofs.TidyLaws.{Following}
use Rattle.sharing.proofs.tidying.lead_holds.Given as goal

abbrev pub invariant-loop-hold : goal.invariant-loop-hold
invariant-loop-hold l = Following l.to l.t l.next l.hold

abbrev pub decreases-loop-hold : goal.decreases-loop-hold
decreases-loop-hold l = 128 - l.hold
