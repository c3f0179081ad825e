use Rattle.tables.proofs.TidySteps.{tidy_rows_one}
use Rattle.tables.proofs.telling.row.Goals as goal

pub tidy_item-requires : goal.tidy_item-requires
tidy_item-requires c = search tidy_rows_one

pub returns : goal.returns
returns c = search (c.in-Ok.ensures, c.in_ok-next.was, tidy_rows_one)

pub returns-in_default : goal.returns-in_default
returns-in_default c = search tidy_rows_one

pub returns-in_err-next : goal.returns-in_err-next
returns-in_err-next c = search (c.in-Ok.ensures, c.in_err-next.was, tidy_rows_one)

pub returns-then-not-shortest : goal.returns-then-not-shortest
returns-then-not-shortest c = search tidy_rows_one
