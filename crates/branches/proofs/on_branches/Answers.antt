use Rattle.branches.proofs.CheckSteps.{payload_steps}
use Rattle.branches.proofs.on_branches.Goals as goal

pub returns-in_err-judge_in : goal.returns-in_err-judge_in
returns-in_err-judge_in c = search (c.in_err-judge_in.was, payload_steps)

pub checked-requires-clause-listed : goal.checked-requires-clause-listed
checked-requires-clause-listed c = search payload_steps

pub returns : goal.returns
returns c = search payload_steps
