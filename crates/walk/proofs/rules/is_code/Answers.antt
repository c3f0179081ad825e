use Rattle.walk.proofs.RuleLaws.{code_test}
use Rattle.walk.proofs.rules.is_code.Goals as goal

pub returns : goal.returns
returns c = search code_test
