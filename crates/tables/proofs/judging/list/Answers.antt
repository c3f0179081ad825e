use Rattle.tables.proofs.JudgeSteps.{judged_list}
use Rattle.tables.proofs.judging.list.Goals as goal

pub returns : goal.returns
returns c = search (c.in_ok-k.was, c.in_ok-next.was, judged_list)

pub returns-in_err-k : goal.returns-in_err-k
returns-in_err-k c = search (c.in_err-k.was, judged_list)

pub returns-in_err-next : goal.returns-in_err-next
returns-in_err-next c = search (c.in_ok-k.was, c.in_err-next.was, judged_list)
