use Rattle.metadata.proofs.FindLaws.{judgings}
use Rattle.metadata.proofs.judge_for.Goals as goal

pub returns-in_err-held : goal.returns-in_err-held
returns-in_err-held c = search (c.in_err-held.was, judgings)

pub returns : goal.returns
returns c = search (c.in_ok-held.was, judgings)
