use Rattle.branches.proofs.HintSteps.{sitting_in}
use Rattle.branches.proofs.hints.hints_in.Goals as goal

pub returns-in_default : goal.returns-in_default
returns-in_default c = search sitting_in

pub returns : goal.returns
returns c = search sitting_in
