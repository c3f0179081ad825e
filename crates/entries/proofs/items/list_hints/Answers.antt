use Rattle.format.proofs.Nested.{handed_on}
use Rattle.entries.proofs.ItemLaws.{items_listed}
use Rattle.entries.proofs.items.list_hints.Goals as goal

pub returns-in_err-judge_hints : goal.returns-in_err-judge_hints
returns-in_err-judge_hints c = rw (handed_on c.from_residual.result c.from_residual.ensures) (search (c.in_err-judge_hints.was, items_listed))

pub list_functions-requires : goal.list_functions-requires
list_functions-requires c = search (c.in_ok-judge_hints.was, items_listed)

pub returns : goal.returns
returns c = search (c.in_ok-judge_hints.was, items_listed)
