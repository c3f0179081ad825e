use Rattle.sharing.proofs.OpenLaws.{opens_with}
use Rattle.sharing.proofs.opening.open_with.Goals as goal

pub returns-then-not-rows_right : goal.returns-then-not-rows_right
returns-then-not-rows_right c = search opens_with

pub join-requires-clause-b_bound : goal.join-requires-clause-b_bound
join-requires-clause-b_bound c = search opens_with

pub returns-in-None : goal.returns-in-None
returns-in-None c = search opens_with

pub returns-in-Some : goal.returns-in-Some
returns-in-Some c = search opens_with
