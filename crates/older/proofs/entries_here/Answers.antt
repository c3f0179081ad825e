use Rattle.older.proofs.Steps.{vector_steps}
use Rattle.older.proofs.entries_here.Goals as goal

pub entries_times-requires : goal.entries_times-requires
entries_times-requires c = search vector_steps

pub returns : goal.returns
returns c = search (c.in_ok-n.ensures, vector_steps)

pub returns-in_err-n : goal.returns-in_err-n
returns-in_err-n c = search (c.in_err-n.ensures, vector_steps)
