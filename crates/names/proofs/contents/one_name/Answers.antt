use Rattle.names.proofs.ContentLaws.{one_steps}
use Rattle.names.proofs.contents.one_name.Goals as goal

pub overflow_sub-length : goal.overflow_sub-length
overflow_sub-length c = search one_steps

pub returns : goal.returns
returns c = search (c.in_ok-name.was, one_steps)

pub returns-in_err-name : goal.returns-in_err-name
returns-in_err-name c = search (c.in_err-name.was, one_steps)
