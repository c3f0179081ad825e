use Rattle.entries.proofs.MapLaws.{all_listed}
use Rattle.entries.proofs.hints.list_functions.Goals as goal

pub rows_here-all-requires : goal.rows_here-all-requires
rows_here-all-requires c = search all_listed

pub rows_in_groups-n-requires : goal.rows_in_groups-n-requires
rows_in_groups-n-requires c = search all_listed

pub put_functions-requires : goal.put_functions-requires
put_functions-requires c = search all_listed

pub returns-then-three_fit : goal.returns-then-three_fit
returns-then-three_fit c = search all_listed

pub returns : goal.returns
returns c = search all_listed
