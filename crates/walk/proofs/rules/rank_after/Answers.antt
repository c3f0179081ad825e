use Rattle.walk.proofs.RuleLaws.{ranks}
use Rattle.walk.proofs.rules.rank_after.Goals as goal

pub returns-then-id-eq-CUSTOM : goal.returns-then-id-eq-CUSTOM
returns-then-id-eq-CUSTOM c = search ranks

pub returns : goal.returns
returns c = search ranks
