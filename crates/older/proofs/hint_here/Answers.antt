use Rattle.format.proofs.Nested.{handed_on}
use Rattle.older.proofs.Steps.{hint_steps}
use Rattle.older.proofs.hint_here.Goals as goal

pub returns : goal.returns
returns c = search (c.in_ok-k.ensures, c.in_ok-offset.ensures, hint_steps)

pub returns-in_err-k : goal.returns-in_err-k
returns-in_err-k c = search (c.in_err-k.ensures, hint_steps)

pub returns-in_err-offset : goal.returns-in_err-offset
returns-in_err-offset c = rw (handed_on _ c.from_residual-in_err-offset.ensures) (search (c.in_ok-k.ensures, c.in_err-offset.ensures, hint_steps))
