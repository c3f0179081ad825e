use Rattle.format.proofs.Nested.{handed_on}
use Rattle.branches.proofs.FunctionSteps.{function_steps}
use Rattle.branches.proofs.functions.one_function.Goals as goal

pub returns-then-n-eq0 : goal.returns-then-n-eq0
returns-then-n-eq0 c = search function_steps

pub returns-in_default : goal.returns-in_default
returns-in_default c = search (c.in_default.ensures, function_steps)

pub returns-in_err-after : goal.returns-in_err-after
returns-in_err-after c = rw (handed_on _ c.from_residual.ensures) (search (c.in-Some.ensures, c.in_err-after.ensures, function_steps))

pub returns : goal.returns
returns c = search (c.in-Some.ensures, c.in_ok-after.ensures, function_steps)
