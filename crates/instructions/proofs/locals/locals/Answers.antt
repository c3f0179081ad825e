use Rattle.instructions.proofs.LocalSteps.{locals_steps}
use Rattle.instructions.proofs.locals.locals.Goals as goal

pub groups-requires : goal.groups-requires
groups-requires c = search locals_steps

pub returns-in_default : goal.returns-in_default
returns-in_default c = search locals_steps

pub returns : goal.returns
returns c = search locals_steps
