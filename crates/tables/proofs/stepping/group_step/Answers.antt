use Rattle.tables.proofs.StepLaws.{group_stepping}
use Rattle.tables.proofs.stepping.group_step.Goals as goal

pub number_here-index-requires : goal.number_here-index-requires
number_here-index-requires c = search group_stepping

pub returns : goal.returns
returns c = search group_stepping
