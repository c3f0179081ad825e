use Rattle.branches.proofs.ImportSteps.{list_steps}
use Rattle.branches.proofs.imports.list_read.Goals as goal

pub returns-in_err-n : goal.returns-in_err-n
returns-in_err-n c = search (c.in_err-n.was, list_steps)

pub returns : goal.returns
returns c = search (c.in_ok-n.was, list_steps)
