use Rattle.older.proofs.Answers.{judgings}
use Rattle.older.proofs.judge_in.Goals as goal

pub returns-then-at-next : goal.returns-then-at-next
returns-then-at-next c = search judgings

pub returns : goal.returns
returns c = search (c.in_ok-next.ensures, judgings)

pub returns-in_err-next : goal.returns-in_err-next
returns-in_err-next c = search (c.in_err-next.ensures, judgings)
