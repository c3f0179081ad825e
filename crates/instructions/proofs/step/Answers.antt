use Rattle.instructions.proofs.Steps.{step_steps}
use Rattle.instructions.proofs.step.Goals as goal

pub returns-then-end-at : goal.returns-then-end-at
returns-then-end-at c = search step_steps

pub returns : goal.returns
returns c = search step_steps
