use Rattle.reading.proofs.PartSteps.{sized_steps}
use Rattle.reading.proofs.Cursor.sized.Goals as goal

pub overflow_sub-end : goal.overflow_sub-end
overflow_sub-end c = search (c.in_ok-n.ensures, sized_steps)

pub returns-then-end-at : goal.returns-then-end-at
returns-then-end-at c = search (c.in_ok-n.ensures, sized_steps)

pub returns-in_err-n : goal.returns-in_err-n
returns-in_err-n c = search (c.in_err-n.ensures, sized_steps)

pub returns : goal.returns
returns c = search (c.in_ok-n.ensures, sized_steps)
