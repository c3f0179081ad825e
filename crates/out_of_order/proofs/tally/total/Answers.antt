use Rattle.out_of_order.proofs.Tallies.{totals}
use Rattle.out_of_order.proofs.tally.total.Goals as goal

pub returns-then-t-eq0 : goal.returns-then-t-eq0
returns-then-t-eq0 c = search totals

pub overflow_add-result-2 : goal.overflow_add-result-2
overflow_add-result-2 c = search totals

pub returns : goal.returns
returns c = search totals
