use Rattle.format.proofs.Nested.{handed_on}
use Rattle.rewrite.proofs.ItemLaws.{payload_steps}
use Rattle.rewrite.proofs.hints.Goals as goal

pub put_items-requires : goal.put_items-requires
put_items-requires c = search payload_steps

pub returns : goal.returns
returns c = search (c.in_ok-judge_hints.was, payload_steps)

pub returns-in_err-judge_hints : goal.returns-in_err-judge_hints
returns-in_err-judge_hints c = let e = handed_on c.from_residual.result c.from_residual.ensures in rw e (search (c.in_err-judge_hints.was, payload_steps))
