use Rattle.joining.proofs.StepLaws.{taking}
use Rattle.joining.proofs.rows.behind_taken.Goals as goal

pub returns-in-None : goal.returns-in-None
returns-in-None c = search taking

pub returns-in-Some : goal.returns-in-Some
returns-in-Some c = search taking
