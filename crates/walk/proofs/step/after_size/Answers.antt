use Rattle.walk.proofs.StepLaws.{behind}
use Rattle.walk.proofs.step.after_size.Goals as goal

pub returns-in_err-custom : goal.returns-in_err-custom
returns-in_err-custom c = search (c.in_err-custom.ensures, behind)

pub returns-in-Err : goal.returns-in-Err
returns-in-Err c = search (c.in_ok-custom.ensures, behind)

pub returns-in-Ok : goal.returns-in-Ok
returns-in-Ok c = search (c.in_ok-custom.ensures, behind)
