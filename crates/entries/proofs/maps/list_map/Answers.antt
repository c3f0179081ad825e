use Rattle.entries.proofs.MapLaws.{map_listed}
use Rattle.entries.proofs.maps.list_map.Goals as goal

pub rows_here-all-requires : goal.rows_here-all-requires
rows_here-all-requires c = search map_listed

pub put_rows-requires : goal.put_rows-requires
put_rows-requires c = search map_listed

pub returns-then-four_fit : goal.returns-then-four_fit
returns-then-four_fit c = search map_listed

pub returns : goal.returns
returns c = search map_listed
