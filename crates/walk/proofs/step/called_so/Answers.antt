use Rattle.walk.proofs.StepLaws.{namings}
use Rattle.walk.proofs.step.called_so.Goals as goal

pub returns-in_err-name : goal.returns-in_err-name
returns-in_err-name c = search (c.in_err-name.was, namings)

pub returns : goal.returns
returns c = search (c.in_ok-name.was, namings)
