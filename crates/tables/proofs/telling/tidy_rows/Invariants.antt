use Rattle.format.specs.Laws.Counted.{Counted}
use Rattle.format.specs.Forms.{part_form}
use Rattle.tables.specs.Seeking.{reader_of}
use Rattle.tables.proofs.TidySteps.{Turn}
use Rattle.tables.proofs.telling.tidy_rows.Given as goal

abbrev pub invariant-loop : goal.invariant-loop
invariant-loop l = Counted (λ more. Turn (reader_of l.item) part_form l.n l.s l.initial.next l.next l.least more) l.n l.counter
