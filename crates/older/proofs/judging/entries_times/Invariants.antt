use Rattle.format.specs.Laws.Counted.{Counted}
use Rattle.std.specs.Prelude.{None}
use Rattle.older.proofs.Steps.{Turn}
use Rattle.format.specs.Older.{older_entry}
use Rattle.older.specs.Seeking.{nothing}
use Rattle.older.proofs.judging.entries_times.Given as goal

abbrev pub invariant-loop : goal.invariant-loop
invariant-loop l = Counted (λ more. Turn nothing nothing older_entry l.n l.s l.initial.next l.next more None) l.n l.counter
