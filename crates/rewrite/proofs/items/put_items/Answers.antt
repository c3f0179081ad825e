use Rattle.rewrite.proofs.ItemLaws.{item_steps}
use Rattle.rewrite.proofs.items.put_items.Goals as goal

pub number_here-count-requires : goal.number_here-count-requires
number_here-count-requires c = search item_steps

pub groups_length-functions-requires : goal.groups_length-functions-requires
groups_length-functions-requires c = search item_steps

pub overflow_add-needed : goal.overflow_add-needed
overflow_add-needed c = search item_steps

pub returns-then-out-needed : goal.returns-then-out-needed
returns-then-out-needed c = search item_steps

pub returns-then-needed-c : goal.returns-then-needed-c
returns-then-needed-c c = search item_steps

pub returns : goal.returns
returns c = search item_steps
