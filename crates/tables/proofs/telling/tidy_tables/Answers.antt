use Rattle.tables.proofs.TidySteps.{tidy_lists_list}
use Rattle.tables.proofs.telling.tidy_tables.Goals as goal

pub tidy_groups-requires : goal.tidy_groups-requires
tidy_groups-requires c = search tidy_lists_list

pub returns-then-groups-gt0 : goal.returns-then-groups-gt0
returns-then-groups-gt0 c = search tidy_lists_list

pub returns-else-groups-gt0 : goal.returns-else-groups-gt0
returns-else-groups-gt0 c = search tidy_lists_list

pub returns-else-shortest : goal.returns-else-shortest
returns-else-shortest c = search tidy_lists_list

pub returns-in_default : goal.returns-in_default
returns-in_default c = search (c.in_default.ensures, tidy_lists_list)
