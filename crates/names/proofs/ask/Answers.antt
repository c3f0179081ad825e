use Rattle.names.proofs.AskLaws.{asked_all, asks_all}
use Rattle.names.proofs.ask.Goals as goal

pub returns : goal.returns
returns c = search asked_all

pub returns-in_err-judge_in : goal.returns-in_err-judge_in
returns-in_err-judge_in c = asks_all _ _ _ _ c.over-all.ensures (search (c.in_err-judge_in.was, asked_all))
