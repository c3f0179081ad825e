use Rattle.joining.proofs.StepLaws.{next_groups}
use Rattle.joining.proofs.rows.next_group.Goals as goal

pub returns-then-i-j : goal.returns-then-i-j
returns-then-i-j c = search next_groups

pub returns-then-j-i : goal.returns-then-j-i
returns-then-j-i c = search next_groups

pub returns-in-Some-group_step : goal.returns-in-Some-group_step
returns-in-Some-group_step c = search next_groups

pub returns-in-None-group_step-2 : goal.returns-in-None-group_step-2
returns-in-None-group_step-2 c = search next_groups

pub returns-else-j-i : goal.returns-else-j-i
returns-else-j-i c = search next_groups
