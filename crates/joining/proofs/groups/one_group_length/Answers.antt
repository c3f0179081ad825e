use Rattle.joining.proofs.GroupLaws.{measuring_group}
use Rattle.joining.proofs.groups.one_group_length.Goals as goal

pub rows_of-requires : goal.rows_of-requires
rows_of-requires c = search measuring_group

pub rows_of-requires-2 : goal.rows_of-requires-2
rows_of-requires-2 c = search measuring_group

pub merged_length-rows-requires : goal.merged_length-rows-requires
merged_length-rows-requires c = search measuring_group

pub group_length-length-requires : goal.group_length-length-requires
group_length-length-requires c = search measuring_group

pub returns : goal.returns
returns c = search measuring_group
