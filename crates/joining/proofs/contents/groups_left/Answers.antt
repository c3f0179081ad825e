use Rattle.joining.proofs.ContentLaws.{groups_measured}
use Rattle.joining.proofs.contents.groups_left.Goals as goal

pub rows_of-requires : goal.rows_of-requires
rows_of-requires c = search groups_measured

pub rows_of-requires-2 : goal.rows_of-requires-2
rows_of-requires-2 c = search groups_measured

pub groups_length-groups-requires : goal.groups_length-groups-requires
groups_length-groups-requires c = search groups_measured

pub list_left-requires : goal.list_left-requires
list_left-requires c = search groups_measured

pub returns : goal.returns
returns c = search groups_measured
