use Rattle.branches.proofs.ImportSteps.{limits_steps}
use Rattle.branches.proofs.imports.kind_read.Goals as goal

pub returns-in_err-kind : goal.returns-in_err-kind
returns-in_err-kind c = search (c.in_err-kind.was, limits_steps)

pub returns-then-kind-gt-GLOBAL : goal.returns-then-kind-gt-GLOBAL
returns-then-kind-gt-GLOBAL c = search (c.in_ok-kind.ensures, limits_steps)

pub returns : goal.returns
returns c = search (c.in_ok-kind.ensures, limits_steps)
