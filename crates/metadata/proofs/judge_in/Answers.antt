use Rattle.metadata.proofs.AnswerLaws.{judgements}
use Rattle.metadata.proofs.judge_in.Goals as goal

pub returns-in_err-judge_for : goal.returns-in_err-judge_for
returns-in_err-judge_for c = search (c.in_err-judge_for.ensures, judgements)

pub returns : goal.returns
returns c = search (c.in_ok-judge_for.ensures, judgements)
