use Rattle.older.proofs.Steps.{Turn}
use Rattle.format.specs.Older.{older_entry, first_in}
use Rattle.older.specs.Seeking.{in_function}
use Rattle.older.proofs.entries_times.Given as goal

abbrev pub invariant-loop : goal.invariant-loop
invariant-loop l = Turn (in_function l.function l.offset) (first_in l.function l.offset) older_entry l.n l.s l.initial.next l.next l.counter l.held
