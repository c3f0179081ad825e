use Rattle.format.proofs.Nested.{ok_none, ok_some}
use Rattle.branches.proofs.CheckSteps.{branch_checks}
use Rattle.branches.proofs.hints_on_branches.Goals as goal

pub returns-in_err-found : goal.returns-in_err-found
returns-in_err-found c = search (c.in_err-found.was, branch_checks)

pub returns-in_default : goal.returns-in_default
returns-in_default c = search (ok_none c.in_ok-found.was c.in_default.is, branch_checks)

pub overflow_add-end : goal.overflow_add-end
overflow_add-end c = search (ok_some c.in_ok-found.was c.in-Some.is, branch_checks)

pub on_branches-requires-clause-walked : goal.on_branches-requires-clause-walked
on_branches-requires-clause-walked c = search (ok_some c.in_ok-found.was c.in-Some.is, branch_checks)

pub on_branches-requires-clause-inside : goal.on_branches-requires-clause-inside
on_branches-requires-clause-inside c = search (ok_some c.in_ok-found.was c.in-Some.is, branch_checks)

pub returns : goal.returns
returns c = search (ok_some c.in_ok-found.was c.in-Some.is, branch_checks)
