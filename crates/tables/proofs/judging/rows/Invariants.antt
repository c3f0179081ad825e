use Rattle.format.specs.Laws.Counted.{Counted}
use Rattle.format.specs.Parts.{name}
use Rattle.tables.specs.Judging.{numbered}
use Rattle.tables.specs.Steps.{index_from}
use Rattle.tables.proofs.JudgeSteps.{Turn}
use Rattle.tables.proofs.judging.rows.Given as goal

abbrev pub invariant-loop : goal.invariant-loop
invariant-loop l = Counted (λ more. Turn (numbered index_from name) l.n l.s l.initial.next l.next l.least more) l.n l.counter
