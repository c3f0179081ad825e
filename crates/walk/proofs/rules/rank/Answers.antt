use Rattle.format.specs.Walk.{greatest_id, rank}
use Rattle.walk.proofs.RuleLaws.{orders}
use Rattle.walk.proofs.rules.rank.Goals as goal

pub returns-then-at-lt-IDS : goal.returns-then-at-lt-IDS
unfolding greatest_id rank
returns-then-at-lt-IDS c = search orders

pub returns : goal.returns
unfolding greatest_id rank
returns c = search orders
