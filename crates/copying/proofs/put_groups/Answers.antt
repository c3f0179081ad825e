use Rattle.copying.proofs.Putting.{putting_groups}
use Rattle.copying.proofs.put_groups.Goals as goal

pub loop-index-init : goal.loop-index-init
loop-index-init c = search putting_groups

pub rows_here-entries-requires : goal.rows_here-entries-requires
rows_here-entries-requires c = search putting_groups

pub put_group-group-requires : goal.put_group-group-requires
put_group-group-requires c = search putting_groups

pub loop-index-preserved : goal.loop-index-preserved
loop-index-preserved c = search putting_groups

pub returns : goal.returns
returns c = search putting_groups
