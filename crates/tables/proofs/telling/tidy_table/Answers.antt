use Rattle.tables.proofs.TidySteps.{tidy_items_list}
use Rattle.tables.proofs.telling.tidy_table.Goals as goal

pub tidy_rows-requires : goal.tidy_rows-requires
tidy_rows-requires c = search tidy_items_list

pub returns-then-n-gt0 : goal.returns-then-n-gt0
returns-then-n-gt0 c = search tidy_items_list

pub returns-else-n-gt0 : goal.returns-else-n-gt0
returns-else-n-gt0 c = search tidy_items_list

pub returns-else-shortest : goal.returns-else-shortest
returns-else-shortest c = search tidy_items_list

pub returns-in_default : goal.returns-in_default
returns-in_default c = search (c.in_default.ensures, tidy_items_list)
