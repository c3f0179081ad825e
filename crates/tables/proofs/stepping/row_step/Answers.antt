use Rattle.tables.proofs.StepLaws.{row_stepping}
use Rattle.tables.proofs.stepping.row_step.Goals as goal

pub number_here-index-requires : goal.number_here-index-requires
number_here-index-requires c = search row_stepping

pub part_here-value-requires : goal.part_here-value-requires
part_here-value-requires c = search row_stepping

pub returns : goal.returns
returns c = search row_stepping
