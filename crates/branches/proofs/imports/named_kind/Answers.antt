use Rattle.branches.proofs.ImportSteps.{kind_steps}
use Rattle.branches.proofs.imports.named_kind.Goals as goal

pub returns-in_err-d : goal.returns-in_err-d
returns-in_err-d c = search (c.in_err-d.was, kind_steps)

pub name-requires-2 : goal.name-requires-2
name-requires-2 c = search (c.in_ok-d.was, kind_steps)

pub returns-in_err-e : goal.returns-in_err-e
returns-in_err-e c = search (c.in_ok-d.was, c.in_err-e.was, kind_steps)

pub kind_read-requires : goal.kind_read-requires
kind_read-requires c = search kind_steps

pub returns : goal.returns
returns c = search (c.in_ok-d.ensures, c.in_ok-e.ensures, kind_steps)
