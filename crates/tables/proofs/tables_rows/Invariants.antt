use Rattle.format.specs.Tables.{table}
use Rattle.tables.specs.Seeking.{reader_of, wanted_in}
use Rattle.tables.proofs.Turns.{Turn}
use Rattle.tables.proofs.tables_rows.Given as goal

abbrev pub invariant-loop : goal.invariant-loop
invariant-loop l = Turn (table (reader_of l.item)) (wanted_in l.inner) l.key l.n l.s l.initial.next l.next l.least l.counter l.held
