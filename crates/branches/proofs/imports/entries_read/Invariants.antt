use Rattle.format.specs.Laws.Counted.{Counted}
use Rattle.branches.proofs.ImportSteps.{Tallying}
use Rattle.branches.proofs.imports.entries_read.Given as goal

abbrev pub invariant-loop : goal.invariant-loop
invariant-loop l = Counted (λ more. Tallying l.n more l.functions l.s l.initial.next l.next) l.n l.counter
