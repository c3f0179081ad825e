use Rattle.format.proofs.Nested.{handed_on}
use Rattle.neighbours.proofs.WholeLaws.{whole}
use Rattle.neighbours.proofs.locals.why_local.Goals as goal

pub returns-in_err-judge : goal.returns-in_err-judge
returns-in_err-judge c = rw (handed_on c.from_residual.result c.from_residual.ensures) (search (c.in_err-judge.was, whole))

pub find-requires : goal.find-requires
find-requires c = search (c.in_ok-judge.was, whole)

pub entry_within-requires : goal.entry_within-requires
entry_within-requires c = search (c.in_ok-judge.was, whole)

pub returns-in-None : goal.returns-in-None
returns-in-None c = search (c.in_ok-judge.was, whole)

pub returns-in-Some : goal.returns-in-Some
returns-in-Some c = search (c.in_ok-judge.was, whole)
