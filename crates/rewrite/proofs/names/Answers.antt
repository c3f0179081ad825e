use Rattle.format.proofs.Nested.{handed_on}
use Rattle.rewrite.proofs.NameLaws.{names_steps}
use Rattle.rewrite.proofs.names.Goals as goal

pub put_payload-requires : goal.put_payload-requires
put_payload-requires c = search names_steps

pub returns : goal.returns
returns c = search (c.in_ok-judge.was, names_steps)

pub returns-in_err-judge : goal.returns-in_err-judge
returns-in_err-judge c = let e = handed_on c.from_residual.result c.from_residual.ensures in rw e (search (c.in_err-judge.was, names_steps))
