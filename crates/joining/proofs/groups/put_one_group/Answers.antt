use Rattle.joining.proofs.GroupLaws.{putting_held}
use Rattle.joining.proofs.groups.put_one_group.Goals as goal

pub rows_of-map-requires : goal.rows_of-map-requires
rows_of-map-requires c = search putting_held

pub rows_of-other-requires : goal.rows_of-other-requires
rows_of-other-requires c = search putting_held

pub merged_length-rows-requires : goal.merged_length-rows-requires
merged_length-rows-requires c = search putting_held

pub put_group-next-requires : goal.put_group-next-requires
put_group-next-requires c = search putting_held

pub returns : goal.returns
returns c = search putting_held
