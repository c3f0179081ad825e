use Rattle.names.proofs.AskLaws.{map_steps}
use Rattle.names.proofs.asking.the_name.Goals as goal

pub part_here-name-requires : goal.part_here-name-requires
part_here-name-requires c = search map_steps

pub returns-in-None : goal.returns-in-None
returns-in-None c = search map_steps

pub returns-in-Some : goal.returns-in-Some
returns-in-Some c = search map_steps
