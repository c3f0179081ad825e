use Rattle.walk.proofs.RuleLaws.{theres}
use Rattle.walk.proofs.rules.there_after.Goals as goal

pub returns-in-Some : goal.returns-in-Some
returns-in-Some c = search theres
