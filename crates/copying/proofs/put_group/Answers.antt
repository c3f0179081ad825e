use Rattle.copying.proofs.Putting.{putting_group}
use Rattle.copying.proofs.put_group.Goals as goal

pub returns-then-entries-eq0 : goal.returns-then-entries-eq0
returns-then-entries-eq0 c = search putting_group

pub put_number-size-requires : goal.put_number-size-requires
put_number-size-requires c = search putting_group

pub put_number-rows-requires : goal.put_number-rows-requires
put_number-rows-requires c = search putting_group

pub put_rows-requires : goal.put_rows-requires
put_rows-requires c = search putting_group

pub returns : goal.returns
returns c = search putting_group
