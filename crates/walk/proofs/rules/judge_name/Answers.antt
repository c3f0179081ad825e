use Rattle.walk.proofs.RuleLaws.{row_rules}
use Rattle.walk.proofs.rules.judge_name.Goals as goal

pub returns-then-has : goal.returns-then-has
returns-then-has c = search row_rules

pub returns-then-seen : goal.returns-then-seen
returns-then-seen c = search row_rules

pub returns-else-seen : goal.returns-else-seen
returns-else-seen c = search row_rules

pub returns-else-row : goal.returns-else-row
returns-else-row c = search row_rules

pub returns-in-None : goal.returns-in-None
returns-in-None c = search row_rules
