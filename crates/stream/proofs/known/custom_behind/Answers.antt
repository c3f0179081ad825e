use Rattle.stream.proofs.KnownLaws.{afters, after_against}
use Rattle.stream.proofs.known.custom_behind.Goals as goal

pub returns-then-row-eq0 : goal.returns-then-row-eq0
returns-then-row-eq0 c = search afters

pub returns-in_err-judge_name : goal.returns-in_err-judge_name
returns-in_err-judge_name c = search (after_against c.args.known c.args.row c.args.spot c.args.to c.requires c.called_row-called.ensures c.in_err-judge_name.ensures, afters)

pub returns : goal.returns
returns c = search (c.in_ok-judge_name.ensures, afters)
