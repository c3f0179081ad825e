use Rattle.joining.proofs.PutLaws.{groups_put_all}
use Rattle.joining.proofs.contents.put_indirect.Goals as goal

pub rows_of-left-requires : goal.rows_of-left-requires
rows_of-left-requires c = search groups_put_all

pub rows_of-right-requires : goal.rows_of-right-requires
rows_of-right-requires c = search groups_put_all

pub overflow_cast-count : goal.overflow_cast-count
overflow_cast-count c = search groups_put_all

pub put_number-rows-requires : goal.put_number-rows-requires
put_number-rows-requires c = search groups_put_all

pub put_groups-requires : goal.put_groups-requires
put_groups-requires c = search groups_put_all

pub returns : goal.returns
returns c = search groups_put_all
