use Rattle.branches.proofs.BodySteps.{bodies_steps}
use Rattle.branches.proofs.bodies.bodies_in.Goals as goal

pub returns-in_err-n : goal.returns-in_err-n
returns-in_err-n c = search (c.in_err-n.was, bodies_steps)

pub returns-in_err-behind : goal.returns-in_err-behind
returns-in_err-behind c = search (c.in_ok-n.was, c.in_err-behind.was, bodies_steps)

pub returns-then-behind : goal.returns-then-behind
returns-then-behind c = search bodies_steps

pub returns : goal.returns
returns c = search (c.in_ok-n.was, c.in_ok-behind.was, bodies_steps)
