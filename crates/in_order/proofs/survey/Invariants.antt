use Rattle.format.specs.Laws.Counted.{Counted}
use Rattle.in_order.proofs.Surveying.{Surveying}
use Rattle.in_order.proofs.survey.Given as goal

abbrev pub invariant-loop : goal.invariant-loop
invariant-loop l = Counted (λ more. Surveying l.n l.s l.initial.next l.next more l.rising l.least l.kept l.length) l.n l.counter
