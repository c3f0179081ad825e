use Rattle.joining.proofs.ContentLaws.{maps_measured}
use Rattle.joining.proofs.contents.maps_left.Goals as goal

pub rows_of-requires : goal.rows_of-requires
rows_of-requires c = search maps_measured

pub rows_of-requires-2 : goal.rows_of-requires-2
rows_of-requires-2 c = search maps_measured

pub merged_length-rows-requires : goal.merged_length-rows-requires
merged_length-rows-requires c = search maps_measured

pub list_left-requires : goal.list_left-requires
list_left-requires c = search maps_measured

pub returns : goal.returns
returns c = search maps_measured
