use Rattle.reading.proofs.TakenLaws.{taken_steps}
use Rattle.reading.proofs.taking.taken.Goals as goal

pub returns-in_default : goal.returns-in_default
returns-in_default c = search taken_steps

pub returns-in_default-found : goal.returns-in_default-found
returns-in_default-found c = search taken_steps

pub returns-then-p-from : goal.returns-then-p-from
returns-then-p-from c = search taken_steps

pub returns-then-p-from-2 : goal.returns-then-p-from-2
returns-then-p-from-2 c = search taken_steps

pub returns : goal.returns
returns c = search taken_steps
