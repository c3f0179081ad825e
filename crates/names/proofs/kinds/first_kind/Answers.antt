use Rattle.names.proofs.ContentLaws.{kind_steps}
use Rattle.names.proofs.kinds.first_kind.Goals as goal

pub returns-in-0 : goal.returns-in-0
returns-in-0 c = search kind_steps

pub returns-in-1 : goal.returns-in-1
returns-in-1 c = search kind_steps

pub returns-in-2 : goal.returns-in-2
returns-in-2 c = search kind_steps

pub returns-in_default : goal.returns-in_default
returns-in_default c = search kind_steps
