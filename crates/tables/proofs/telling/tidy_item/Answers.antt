use Rattle.tables.proofs.TidySteps.{tidy_items}
use Rattle.tables.proofs.telling.tidy_item.Goals as goal

pub returns-then-is_short : goal.returns-then-is_short
returns-then-is_short c = search tidy_items

pub is_item-requires : goal.is_item-requires
is_item-requires c = search tidy_items

pub returns-then-is_item : goal.returns-then-is_item
returns-then-is_item c = search tidy_items

pub returns-else-is_item : goal.returns-else-is_item
returns-else-is_item c = search tidy_items

pub returns-else-shortest : goal.returns-else-shortest
returns-else-shortest c = search tidy_items

pub returns-in_default : goal.returns-in_default
returns-in_default c = search (c.in_default.ensures, tidy_items)
