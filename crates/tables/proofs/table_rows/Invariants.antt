use Rattle.format.specs.Laws.Counted.{Counted}
use mathlib.Core.Option.{some}
use Rattle.tables.specs.Seeking.{reader_of}
use Rattle.tables.proofs.Turns.{Turn}
use Rattle.tables.proofs.table_rows.Given as goal

abbrev pub invariant-loop : goal.invariant-loop
invariant-loop l = Counted (λ more. Turn (reader_of l.item) some l.key l.n l.s l.initial.next l.next l.least more l.held) l.n l.counter
