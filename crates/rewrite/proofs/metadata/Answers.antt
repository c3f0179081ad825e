use Rattle.format.proofs.Nested.{handed_on}
use Rattle.rewrite.proofs.ItemLaws.{payload_steps}
use Rattle.rewrite.proofs.metadata.Goals as goal

pub put_items-requires : goal.put_items-requires
put_items-requires c = search payload_steps

pub returns : goal.returns
returns c = search (c.in_ok-judge.was, payload_steps)

pub returns-in_err-judge : goal.returns-in_err-judge
returns-in_err-judge c = let e = handed_on c.from_residual.result c.from_residual.ensures in rw e (search (c.in_err-judge.was, payload_steps))
