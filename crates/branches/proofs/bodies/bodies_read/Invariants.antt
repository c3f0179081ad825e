use Rattle.format.specs.Laws.Counted.{Counted}
use Rattle.branches.proofs.BodySteps.{Turn}
use Rattle.branches.proofs.bodies.bodies_read.Given as goal

abbrev pub invariant-loop : goal.invariant-loop
invariant-loop l = Counted (λ more. Turn l.n more l.s l.initial.next l.next) l.n l.counter
