use Rattle.tables.proofs.JudgeSteps.{judged_row}
use Rattle.tables.proofs.judging.row.Goals as goal

pub sized-requires : goal.sized-requires
sized-requires c = search judged_row

pub is_text-requires : goal.is_text-requires
is_text-requires c = search judged_row

pub returns-then-is_text : goal.returns-then-is_text
returns-then-is_text c = search (c.in_ok-k.was, c.in_ok-part.was, judged_row)

pub returns : goal.returns
returns c = search (c.in_ok-k.was, c.in_ok-part.was, judged_row)

pub returns-in_err-k : goal.returns-in_err-k
returns-in_err-k c = search (c.in_err-k.was, judged_row)

pub returns-in_err-part : goal.returns-in_err-part
returns-in_err-part c = search (c.in_ok-k.was, c.in_err-part.was, judged_row)
