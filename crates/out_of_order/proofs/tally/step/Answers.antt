use Rattle.out_of_order.proofs.Tallies.{steps}
use Rattle.out_of_order.proofs.tally.step.Goals as goal

pub returns-then-t-eq0 : goal.returns-then-t-eq0
returns-then-t-eq0 c = search steps

pub returns-then-key-t : goal.returns-then-key-t
returns-then-key-t c = search steps

pub returns-then-is_of_one_function : goal.returns-then-is_of_one_function
returns-then-is_of_one_function c = search steps

pub with_hint-requires-2 : goal.with_hint-requires-2
with_hint-requires-2 c = search steps

pub returns : goal.returns
returns c = search steps
