use Rattle.format.specs.Walk.{greatest_id}
use Rattle.walk.proofs.RuleLaws.{orders}
use Rattle.walk.proofs.rules.is_unknown.Goals as goal

pub returns : goal.returns
unfolding greatest_id
returns c = search orders
