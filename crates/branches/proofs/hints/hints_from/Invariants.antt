use Rattle.format.specs.Laws.Counted.{Counted}
use Rattle.branches.proofs.HintSteps.{Sitting}
use Rattle.branches.proofs.hints.hints_from.Given as goal

abbrev pub invariant-loop : goal.invariant-loop
invariant-loop l = Counted (λ more. Sitting l.n more l.s l.base l.initial.next l.initial.here l.next l.here) l.n l.counter
