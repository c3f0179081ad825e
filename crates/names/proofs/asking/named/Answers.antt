use Rattle.names.proofs.AskLaws.{map_steps}
use Rattle.names.proofs.asking.named.Goals as goal

pub find_row-requires : goal.find_row-requires
find_row-requires c = search map_steps

pub returns-in-None : goal.returns-in-None
returns-in-None c = search map_steps

pub returns-in-Some : goal.returns-in-Some
returns-in-Some c = search map_steps
