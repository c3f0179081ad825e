use Rattle.names.proofs.AskLaws.{map_steps}
use Rattle.names.proofs.asking.named_within.Goals as goal

pub find_group-requires : goal.find_group-requires
find_group-requires c = search map_steps

pub returns-in-None : goal.returns-in-None
returns-in-None c = search map_steps

pub returns-in-Some : goal.returns-in-Some
returns-in-Some c = search map_steps
