use Rattle.format.specs.Laws.Counted.{Counted}
use Rattle.instructions.proofs.LocalSteps.{Counting}
use Rattle.instructions.proofs.locals.groups.Given as goal

abbrev pub invariant-loop : goal.invariant-loop
invariant-loop l = Counted (λ more. Counting l.n more l.before l.s l.initial.next l.next) l.n l.counter
