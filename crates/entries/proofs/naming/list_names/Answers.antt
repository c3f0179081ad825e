use Rattle.format.proofs.Nested.{handed_on}
use Rattle.entries.proofs.NamingLaws.{names_listed}
use Rattle.entries.proofs.naming.list_names.Goals as goal

pub returns-in_err-judge : goal.returns-in_err-judge
returns-in_err-judge c = rw (handed_on c.from_residual.result c.from_residual.ensures) (search (c.in_err-judge.was, names_listed))

pub find-requires : goal.find-requires
find-requires c = search (c.in_ok-judge.was, names_listed)

pub list_contents-requires : goal.list_contents-requires
list_contents-requires c = search (c.in_ok-judge.was, names_listed)

pub returns-in-None : goal.returns-in-None
returns-in-None c = search (c.in_ok-judge.was, names_listed)

pub returns-in-Some : goal.returns-in-Some
returns-in-Some c = search (c.in_ok-judge.was, names_listed)
