use Rattle.joining.proofs.GroupLaws.{putting_groups}
use Rattle.joining.proofs.groups.put_groups.Goals as goal

pub loop-index-init : goal.loop-index-init
loop-index-init c = search putting_groups

pub returns : goal.returns
returns c = search putting_groups

pub put_one_group-group-requires : goal.put_one_group-group-requires
put_one_group-group-requires c = search putting_groups

pub loop-index-preserved : goal.loop-index-preserved
loop-index-preserved c = search putting_groups
