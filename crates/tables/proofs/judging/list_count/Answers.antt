use Rattle.tables.proofs.JudgeSteps.{count_steps}
use Rattle.tables.proofs.judging.list_count.Goals as goal

pub returns-then-nested : goal.returns-then-nested
returns-then-nested c = search count_steps

pub returns : goal.returns
returns c = search count_steps
