use Rattle.branches.proofs.ImportSteps.{limits_steps}
use Rattle.branches.proofs.imports.table_read.Goals as goal

pub returns-in_err-next : goal.returns-in_err-next
returns-in_err-next c = search (c.in_err-next.was, limits_steps)

pub returns : goal.returns
returns c = search (c.in_ok-next.was, limits_steps)
