use Rattle.names.proofs.AskLaws.{questions}
use Rattle.names.proofs.within.ask_in.Goals as goal

pub returns-in_err-judge_in : goal.returns-in_err-judge_in
returns-in_err-judge_in c = search (c.in_err-judge_in.was, questions)
