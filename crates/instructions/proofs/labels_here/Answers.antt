use Rattle.instructions.proofs.Steps.{labels_steps}
use Rattle.instructions.proofs.labels_here.Goals as goal

pub indices-requires : goal.indices-requires
indices-requires c = search labels_steps

pub returns-in_default : goal.returns-in_default
returns-in_default c = search labels_steps

pub returns-in_err-default : goal.returns-in_err-default
returns-in_err-default c = search (c.in_err-default.ensures, labels_steps)

pub returns : goal.returns
returns c = search (c.in_ok-default.ensures, labels_steps)
