use Rattle.walk.proofs.StepLaws.{steps}
use Rattle.walk.proofs.step.Walk.step.Goals as goal

pub returns-then-m-at : goal.returns-then-m-at
returns-then-m-at c = search steps

pub after_size-requires : goal.after_size-requires
after_size-requires c = search steps

pub returns-in-Err : goal.returns-in-Err
returns-in-Err c = search (c.in-Err.ensures, steps)

pub returns-in_err-contents-in-Ok : goal.returns-in_err-contents-in-Ok
returns-in_err-contents-in-Ok c = search (c.in-Ok.ensures, c.in_err-contents-in-Ok.was, steps)

pub returns-in_ok-contents-in-Ok : goal.returns-in_ok-contents-in-Ok
returns-in_ok-contents-in-Ok c = search (c.in-Ok.ensures, c.in_ok-contents-in-Ok.ensures, steps)
