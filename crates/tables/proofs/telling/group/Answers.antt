use Rattle.tables.proofs.TidySteps.{tidy_groups_one}
use Rattle.tables.proofs.telling.group.Goals as goal

pub tidy_table-requires : goal.tidy_table-requires
tidy_table-requires c = search tidy_groups_one

pub returns : goal.returns
returns c = search (c.in-Ok.ensures, c.in_ok-next.was, tidy_groups_one)

pub returns-in_default : goal.returns-in_default
returns-in_default c = search tidy_groups_one

pub returns-in_err-next : goal.returns-in_err-next
returns-in_err-next c = search (c.in-Ok.ensures, c.in_err-next.was, tidy_groups_one)

pub returns-then-not-shortest : goal.returns-then-not-shortest
returns-then-not-shortest c = search tidy_groups_one
