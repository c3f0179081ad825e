use Rattle.branches.proofs.CheckSteps.{imported_steps}
use Rattle.branches.proofs.imported.Goals as goal

pub returns-in_default : goal.returns-in_default
returns-in_default c = search imported_steps

pub returns : goal.returns
returns c = search imported_steps
