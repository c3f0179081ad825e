use Rattle.branches.proofs.SeatSteps.{branches_told}
use Rattle.branches.proofs.seats.is_branch.Goals as goal

pub returns-then-op-eq-IF : goal.returns-then-op-eq-IF
returns-then-op-eq-IF c = search branches_told

pub returns : goal.returns
returns c = search branches_told
