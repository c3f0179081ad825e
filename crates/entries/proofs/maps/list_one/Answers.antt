use Rattle.entries.proofs.MapLaws.{one_listed}
use Rattle.entries.proofs.maps.list_one.Goals as goal

pub put_row-requires-clause-room : goal.put_row-requires-clause-room
put_row-requires-clause-room c = search one_listed

pub returns-then-four_fit : goal.returns-then-four_fit
returns-then-four_fit c = search one_listed

pub returns : goal.returns
returns c = search one_listed
