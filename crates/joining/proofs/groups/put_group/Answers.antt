use Rattle.joining.proofs.GroupLaws.{putting_group}
use Rattle.joining.proofs.groups.put_group.Goals as goal

pub returns-then-count-eq0 : goal.returns-then-count-eq0
returns-then-count-eq0 c = search putting_group

pub put_number-size-requires : goal.put_number-size-requires
put_number-size-requires c = search putting_group

pub put_number-rows-requires : goal.put_number-rows-requires
put_number-rows-requires c = search putting_group

pub put_merged-requires : goal.put_merged-requires
put_merged-requires c = search putting_group

pub returns : goal.returns
returns c = search putting_group
