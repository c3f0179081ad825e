use Rattle.instructions.proofs.Steps.{pair_steps}
use Rattle.instructions.proofs.memory_here.Goals as goal

pub returns-in_err-offset : goal.returns-in_err-offset
returns-in_err-offset c = search (c.in_err-offset.ensures, pair_steps)

pub returns : goal.returns
returns c = search (c.in_ok-offset.ensures, pair_steps)
