use Rattle.branches.proofs.ImportSteps.{entry_steps}
use Rattle.branches.proofs.imports.entry_read.Goals as goal

pub returns-in_err-kind : goal.returns-in_err-kind
returns-in_err-kind c = search (c.in_err-kind.was, entry_steps)

pub returns-in_err-next : goal.returns-in_err-next
returns-in_err-next c = search (c.in_ok-kind.was, c.in_err-next.was, entry_steps)

pub returns : goal.returns
returns c = search (c.in_ok-kind.was, c.in_ok-next.was, entry_steps)
