use Rattle.walk.proofs.RuleLaws.{row_rules}
use Rattle.walk.proofs.rules.has.Goals as goal

pub returns : goal.returns
returns c = search row_rules
