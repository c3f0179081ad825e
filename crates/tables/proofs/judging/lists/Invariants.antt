use Rattle.tables.specs.Judging.{listed}
use Rattle.tables.proofs.JudgeSteps.{Turn}
use Rattle.tables.proofs.judging.lists.Given as goal

abbrev pub invariant-loop : goal.invariant-loop
invariant-loop l = Turn (listed l.nested) l.n l.s l.initial.next l.next l.least l.counter
