use Rattle.branches.proofs.ImportSteps.{imports_steps}
use Rattle.branches.proofs.imports.imports_in.Goals as goal

pub returns-in_err-functions : goal.returns-in_err-functions
returns-in_err-functions c = search (c.in_err-functions.was, imports_steps)

pub returns-then-next : goal.returns-then-next
returns-then-next c = search imports_steps

pub returns : goal.returns
returns c = search (c.in_ok-functions.was, imports_steps)
