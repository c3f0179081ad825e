use Rattle.branches.proofs.CheckSteps.{bodies_found}
use Rattle.branches.proofs.all_bodies.Goals as goal

pub returns-in_default : goal.returns-in_default
returns-in_default c = search bodies_found

pub returns : goal.returns
returns c = search bodies_found
