use Rattle.branches.proofs.ImportSteps.{bounds_steps}
use Rattle.branches.proofs.imports.bounds_read.Goals as goal

pub returns-in_err-n : goal.returns-in_err-n
returns-in_err-n c = search (c.in_err-n.was, bounds_steps)

pub returns-then-flag-eq0 : goal.returns-then-flag-eq0
returns-then-flag-eq0 c = search bounds_steps

pub returns : goal.returns
returns c = search (c.in_ok-n.was, bounds_steps)
