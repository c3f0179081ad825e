use Rattle.names.proofs.TellLaws.{name_steps}
use Rattle.names.proofs.telling.tidy_name.Goals as goal

pub returns-then-shortest : goal.returns-then-shortest
returns-then-shortest c = search name_steps

pub returns : goal.returns
returns c = search name_steps
