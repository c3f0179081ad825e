use Rattle.tables.proofs.RowSteps.{group_steps}
use Rattle.tables.proofs.group.Goals as goal

pub table-requires : goal.table-requires
table-requires c = search group_steps

pub returns : goal.returns
returns c = search (c.in_ok-k.was, c.in_ok-answer.was, group_steps)

pub returns-in_err-answer : goal.returns-in_err-answer
returns-in_err-answer c = search (c.in_ok-k.was, c.in_err-answer.was, group_steps)

pub returns-in_err-k : goal.returns-in_err-k
returns-in_err-k c = search (c.in_err-k.was, group_steps)
