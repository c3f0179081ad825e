use Rattle.format.proofs.Nested.{handed_on}
use Rattle.markers.proofs.MakeLaws.{making}
use Rattle.markers.proofs.making.make.Goals as goal

pub returns-in_err-judge : goal.returns-in_err-judge
returns-in_err-judge c = rw (handed_on c.from_residual.result c.from_residual.ensures) (search (c.in_err-judge.was, making))

pub find-place-requires : goal.find-place-requires
find-place-requires c = search (c.in_ok-judge.was, making)

pub returns-then-p-ge-TOO_LONG : goal.returns-then-p-ge-TOO_LONG
returns-then-p-ge-TOO_LONG c = search (c.in_ok-judge.was, making)

pub mark-requires-clause-known : goal.mark-requires-clause-known
mark-requires-clause-known c = search (c.in_ok-judge.was, making)

pub returns-in-None : goal.returns-in-None
returns-in-None c = search (c.in_ok-judge.was, making)

pub returns-in-Some : goal.returns-in-Some
returns-in-Some c = search (c.in_ok-judge.was, making)
