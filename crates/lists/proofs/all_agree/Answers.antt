use Rattle.lists.proofs.Checks.{agreement}
use Rattle.lists.proofs.all_agree.Goals as goal

pub returns-then-indices-lengths : goal.returns-then-indices-lengths
returns-then-indices-lengths c = search agreement

pub returns : goal.returns
returns c = search agreement
