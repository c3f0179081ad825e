use Rattle.format.specs.Laws.Counted.{Counted}
use Rattle.format.specs.Tables.{table}
use Rattle.format.specs.Forms.{part_form, table_form}
use Rattle.tables.specs.Seeking.{reader_of}
use Rattle.tables.proofs.TidySteps.{Turn}
use Rattle.tables.proofs.telling.tidy_groups.Given as goal

abbrev pub invariant-loop : goal.invariant-loop
invariant-loop l = Counted (λ more. Turn (table (reader_of l.item)) (table_form part_form) l.n l.s l.initial.next l.next l.least more) l.n l.counter
