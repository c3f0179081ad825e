use Rattle.joining.proofs.PutLaws.{maps_put_all}
use Rattle.joining.proofs.contents.put_maps.Goals as goal

pub rows_of-left-requires : goal.rows_of-left-requires
rows_of-left-requires c = search maps_put_all

pub rows_of-right-requires : goal.rows_of-right-requires
rows_of-right-requires c = search maps_put_all

pub overflow_cast-count : goal.overflow_cast-count
overflow_cast-count c = search maps_put_all

pub put_number-rows-requires : goal.put_number-rows-requires
put_number-rows-requires c = search maps_put_all

pub put_merged-requires : goal.put_merged-requires
put_merged-requires c = search maps_put_all

pub returns : goal.returns
returns c = search maps_put_all
