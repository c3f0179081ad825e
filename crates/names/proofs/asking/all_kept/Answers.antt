use Rattle.names.proofs.AskLaws.{place_steps}
use Rattle.names.proofs.asking.all_kept.Goals as goal

pub returns-in-None : goal.returns-in-None
returns-in-None c = search place_steps

pub returns-in-Some : goal.returns-in-Some
returns-in-Some c = search place_steps
