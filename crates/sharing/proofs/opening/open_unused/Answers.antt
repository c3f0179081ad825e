use Rattle.sharing.proofs.OpenLaws.{opens_unused, unused_written}
use Rattle.sharing.proofs.opening.open_unused.Goals as goal

pub slice_bounds-open_with-end : goal.slice_bounds-open_with-end
slice_bounds-open_with-end c = search opens_unused

pub returns-in-Err : goal.returns-in-Err
returns-in-Err c = search opens_unused

pub returns-in-Ok : goal.returns-in-Ok
returns-in-Ok c = unused_written _ _ c.names.ensures c.in-Ok.is c.open_with.ensures
