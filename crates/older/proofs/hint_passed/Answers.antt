use Rattle.format.proofs.Nested.{handed_on}
use Rattle.older.proofs.Steps.{hint_steps}
use Rattle.older.proofs.hint_passed.Goals as goal

pub returns : goal.returns
returns c = search (c.in_ok-d.ensures, c.in_ok-behind.ensures, hint_steps)

pub returns-in_err-d : goal.returns-in_err-d
returns-in_err-d c = search (c.in_err-d.ensures, hint_steps)

pub returns-in_err-behind : goal.returns-in_err-behind
returns-in_err-behind c = rw (handed_on _ c.from_residual-in_err-behind.ensures) (search (c.in_ok-d.ensures, c.in_err-behind.ensures, hint_steps))
