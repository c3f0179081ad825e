use Rattle.tables.proofs.RowSteps.{index_steps}
use Rattle.tables.proofs.index.Goals as goal

pub returns-then-k-least : goal.returns-then-k-least
returns-then-k-least c = search index_steps

pub returns : goal.returns
returns c = search (c.in_ok-k.was, index_steps)

pub returns-in_err-k : goal.returns-in_err-k
returns-in_err-k c = search (c.in_err-k.was, index_steps)
