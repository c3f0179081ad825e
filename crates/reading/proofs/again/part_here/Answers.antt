use Rattle.reading.proofs.AgainSteps.{part_steps}
use Rattle.reading.proofs.again.part_here.Goals as goal

pub number_here-size-requires : goal.number_here-size-requires
number_here-size-requires c = search part_steps

pub returns : goal.returns
returns c = search part_steps
