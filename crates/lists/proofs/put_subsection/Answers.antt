use Rattle.lists.proofs.Puts.{subsection_puts}
use Rattle.lists.proofs.put_subsection.Goals as goal

pub overflow_cast-indices : goal.overflow_cast-indices
overflow_cast-indices c = search subsection_puts

pub returns : goal.returns
returns c = search subsection_puts
