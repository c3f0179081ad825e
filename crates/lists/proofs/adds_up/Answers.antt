use Rattle.lists.proofs.Checks.{agreement}
use Rattle.lists.proofs.adds_up.Goals as goal

pub returns-then-left-size : goal.returns-then-left-size
returns-then-left-size c = search agreement

pub loop-k-preserved : goal.loop-k-preserved
loop-k-preserved c = search agreement

pub returns : goal.returns
returns c = search agreement
