use Rattle.sharing.proofs.OpenLaws.{opens_new}
use Rattle.sharing.proofs.opening.store_new.Goals as goal

pub first_run-requires-clause-wanted_nonzero : goal.first_run-requires-clause-wanted_nonzero
first_run-requires-clause-wanted_nonzero c = search opens_new

pub settle-requires-clause-settling : goal.settle-requires-clause-settling
settle-requires-clause-settling c = search opens_new

pub returns-in-None : goal.returns-in-None
returns-in-None c = search opens_new

pub returns-in-Some : goal.returns-in-Some
returns-in-Some c = search opens_new
