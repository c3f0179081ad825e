use Prim.Native.Nat.{◌-◌}
use lib.ListN.{length}
use Rattle.branches.proofs.SectionSteps.{Turn}
use Rattle.branches.proofs.sections.contents_of.Given as goal

abbrev pub invariant-loop-at : goal.invariant-loop-at
invariant-loop-at l = Turn l.m l.id l.at

abbrev pub decreases-loop-at : goal.decreases-loop-at
decreases-loop-at l = length l.m - l.at
