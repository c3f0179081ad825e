use Rattle.branches.proofs.ImportSteps.{limits_steps}
use Rattle.branches.proofs.imports.limits_read.Goals as goal

pub returns-in_err-flag : goal.returns-in_err-flag
returns-in_err-flag c = search (c.in_err-flag.was, limits_steps)

pub returns-then-flag-gt-BOUNDED : goal.returns-then-flag-gt-BOUNDED
returns-then-flag-gt-BOUNDED c = search (c.in_ok-flag.ensures, limits_steps)

pub returns : goal.returns
returns c = search (c.in_ok-flag.ensures, limits_steps)
