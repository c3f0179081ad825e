use Rattle.tables.proofs.RowSteps.{value_steps}
use Rattle.tables.proofs.value.Goals as goal

pub returns-then-is_short : goal.returns-then-is_short
returns-then-is_short c = search value_steps

pub is_item-requires : goal.is_item-requires
is_item-requires c = search value_steps

pub returns-then-is_item : goal.returns-then-is_item
returns-then-is_item c = search (c.in_ok-part.was, value_steps)

pub returns : goal.returns
returns c = search (c.in_ok-part.was, value_steps)

pub returns-in_err-part : goal.returns-in_err-part
returns-in_err-part c = search (c.in_err-part.was, value_steps)
