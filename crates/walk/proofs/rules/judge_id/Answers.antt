use Rattle.walk.proofs.RuleLaws.{id_rules_lem}
use Rattle.walk.proofs.rules.judge_id.Goals as goal

pub returns-then-is_unknown : goal.returns-then-is_unknown
returns-then-is_unknown c = search id_rules_lem

pub returns-then-id-eq-CUSTOM : goal.returns-then-id-eq-CUSTOM
returns-then-id-eq-CUSTOM c = search id_rules_lem

pub returns-then-rank-seen : goal.returns-then-rank-seen
returns-then-rank-seen c = search id_rules_lem

pub returns-then-has : goal.returns-then-has
returns-then-has c = search id_rules_lem

pub returns-else-has : goal.returns-else-has
returns-else-has c = search id_rules_lem

pub returns-else-id-eq-DATA : goal.returns-else-id-eq-DATA
returns-else-id-eq-DATA c = search id_rules_lem
