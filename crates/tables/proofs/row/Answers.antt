use Rattle.tables.proofs.RowSteps.{row_steps}
use Rattle.tables.proofs.row.Goals as goal

pub value-requires : goal.value-requires
value-requires c = search row_steps

pub returns : goal.returns
returns c = search (c.in_ok-k.was, c.in_ok-part.was, row_steps)

pub returns-in_err-k : goal.returns-in_err-k
returns-in_err-k c = search (c.in_err-k.was, row_steps)

pub returns-in_err-part : goal.returns-in_err-part
returns-in_err-part c = search (c.in_ok-k.was, c.in_err-part.was, row_steps)
