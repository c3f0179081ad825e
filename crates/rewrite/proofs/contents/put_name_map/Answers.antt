use Rattle.rewrite.proofs.PutLaws.{map_put}
use Rattle.rewrite.proofs.contents.put_name_map.Goals as goal

pub number_here-entries-requires : goal.number_here-entries-requires
number_here-entries-requires c = search map_put

pub put_number-rows-requires : goal.put_number-rows-requires
put_number-rows-requires c = search map_put

pub put_rows-all-requires : goal.put_rows-all-requires
put_rows-all-requires c = search map_put

pub returns : goal.returns
returns c = search map_put
