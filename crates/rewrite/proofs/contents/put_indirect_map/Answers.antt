use Rattle.rewrite.proofs.PutLaws.{groups_put}
use Rattle.rewrite.proofs.contents.put_indirect_map.Goals as goal

pub number_here-groups-requires : goal.number_here-groups-requires
number_here-groups-requires c = search groups_put

pub put_number-rows-requires : goal.put_number-rows-requires
put_number-rows-requires c = search groups_put

pub put_groups-all-requires : goal.put_groups-all-requires
put_groups-all-requires c = search groups_put

pub returns : goal.returns
returns c = search groups_put
