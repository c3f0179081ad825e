use Rattle.copying.proofs.Measuring.{counting_groups}
use Rattle.copying.proofs.groups_length.Goals as goal

pub loop-index-init : goal.loop-index-init
loop-index-init c = search counting_groups

pub rows_here-entries-requires : goal.rows_here-entries-requires
rows_here-entries-requires c = search counting_groups

pub rows_length-rows-requires : goal.rows_length-rows-requires
rows_length-rows-requires c = search counting_groups

pub group_length-group-requires : goal.group_length-group-requires
group_length-group-requires c = search counting_groups

pub overflow_add-length : goal.overflow_add-length
overflow_add-length c = search counting_groups

pub overflow_add-kept : goal.overflow_add-kept
overflow_add-kept c = search counting_groups

pub loop-index-preserved : goal.loop-index-preserved
loop-index-preserved c = search counting_groups

pub returns : goal.returns
returns c = search counting_groups
