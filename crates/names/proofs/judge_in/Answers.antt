use Rattle.format.proofs.Nested.{ok_some, ok_none, handed_on}
use Rattle.names.proofs.JudgeLaws.{judge_turns}
use Rattle.names.proofs.judge_in.Goals as goal

pub loop-id-init : goal.loop-id-init
loop-id-init c = search judge_turns

pub loop-id-preserved : goal.loop-id-preserved
loop-id-preserved c = let e = ok_some c.in_ok-id.was c.in-Some.is in search (c.in_ok-content.was, judge_turns)

pub returns-in_err-id : goal.returns-in_err-id
returns-in_err-id c = let e = handed_on c.from_residual.result c.from_residual.ensures in rw e (search (c.in_err-id.was, judge_turns))

pub returns-in_err-content : goal.returns-in_err-content
returns-in_err-content c = let h = handed_on c.from_residual-in_err-content.result c.from_residual-in_err-content.ensures in let e = ok_some c.in_ok-id.was c.in-Some.is in rw h (search (c.in_err-content.was, judge_turns))

pub returns : goal.returns
returns c = let e = ok_none c.in_ok-id.was c.in_default.is in search judge_turns
