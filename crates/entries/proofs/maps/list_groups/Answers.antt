use Rattle.entries.proofs.MapLaws.{all_listed}
use Rattle.entries.proofs.maps.list_groups.Goals as goal

pub rows_here-all-requires : goal.rows_here-all-requires
rows_here-all-requires c = search all_listed

pub rows_in_groups-n-requires : goal.rows_in_groups-n-requires
rows_in_groups-n-requires c = search all_listed

pub put_groups-requires : goal.put_groups-requires
put_groups-requires c = search all_listed

pub returns-then-four_fit : goal.returns-then-four_fit
returns-then-four_fit c = search all_listed

pub returns : goal.returns
returns c = search all_listed
