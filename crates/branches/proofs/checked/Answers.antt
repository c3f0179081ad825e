use Rattle.format.proofs.Nested.{handed_on}
use Rattle.branches.proofs.CheckSteps.{check_steps}
use Rattle.branches.proofs.checked.Goals as goal

pub returns-in_err-functions : goal.returns-in_err-functions
returns-in_err-functions c = search (c.in_err-functions.was, check_steps)

pub returns-in_err-next : goal.returns-in_err-next
returns-in_err-next c = rw (handed_on _ c.from_residual-in_err-next.ensures) (search (c.in_ok-functions.was, c.in_err-next.ensures, check_steps))

pub returns : goal.returns
returns c = search (c.in_ok-functions.ensures, c.in_ok-next.ensures, check_steps)
