use Rattle.tables.proofs.JudgeSteps.{judged_maps}
use Rattle.tables.proofs.judging.name_map.Goals as goal

pub returns : goal.returns
returns c = search (c.in_ok-n.was, judged_maps)

pub returns-in_err-n : goal.returns-in_err-n
returns-in_err-n c = search (c.in_err-n.was, judged_maps)
