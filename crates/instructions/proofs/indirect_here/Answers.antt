use Rattle.instructions.proofs.Steps.{pair_steps}
use Rattle.instructions.proofs.indirect_here.Goals as goal

pub returns-in_err-table : goal.returns-in_err-table
returns-in_err-table c = search (c.in_err-table.ensures, pair_steps)

pub returns : goal.returns
returns c = search (c.in_ok-table.ensures, pair_steps)
