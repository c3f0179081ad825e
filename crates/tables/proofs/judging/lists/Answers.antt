use Rattle.tables.proofs.JudgeSteps.{judged_turns}
use Rattle.tables.proofs.judging.lists.Goals as goal

pub loop-init : goal.loop-init
loop-init c = search judged_turns

pub loop-preserved : goal.loop-preserved
loop-preserved c = search judged_turns

pub returns : goal.returns
returns c = search judged_turns

pub returns-in_err-outer : goal.returns-in_err-outer
returns-in_err-outer c = search (c.in_err-outer.was, judged_turns)
