use Rattle.joining.proofs.GroupLaws.{measuring_groups}
use Rattle.joining.proofs.groups.groups_length.Goals as goal

pub loop-index-init : goal.loop-index-init
loop-index-init c = search measuring_groups

pub returns : goal.returns
returns c = search measuring_groups

pub one_group_length-group-requires : goal.one_group_length-group-requires
one_group_length-group-requires c = search measuring_groups

pub overflow_add-length : goal.overflow_add-length
overflow_add-length c = search measuring_groups

pub overflow_add-kept : goal.overflow_add-kept
overflow_add-kept c = search measuring_groups

pub loop-index-preserved : goal.loop-index-preserved
loop-index-preserved c = search measuring_groups
