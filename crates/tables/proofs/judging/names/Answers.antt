use Rattle.tables.proofs.JudgeSteps.{judged_names}
use Rattle.tables.proofs.judging.names.Goals as goal

pub rows-requires : goal.rows-requires
rows-requires c = search judged_names

pub returns : goal.returns
returns c = search (c.in_ok-n.was, judged_names)

pub returns-in_err-n : goal.returns-in_err-n
returns-in_err-n c = search (c.in_err-n.was, judged_names)
