use Rattle.format.proofs.Nested.{handed_on}
use Rattle.entries.proofs.ItemLaws.{items_listed}
use Rattle.entries.proofs.items.list_metadata.Goals as goal

pub returns-in_err-judge : goal.returns-in_err-judge
returns-in_err-judge c = rw (handed_on c.from_residual.result c.from_residual.ensures) (search (c.in_err-judge.was, items_listed))

pub list_groups-requires : goal.list_groups-requires
list_groups-requires c = search (c.in_ok-judge.was, items_listed)

pub returns : goal.returns
returns c = search (c.in_ok-judge.was, items_listed)
