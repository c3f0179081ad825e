use Rattle.format.specs.Laws.Counted.{Counted}
use Rattle.std.specs.Prelude.{None}
use Rattle.older.proofs.Steps.{Turn}
use Rattle.format.specs.Older.{older_hint}
use Rattle.older.specs.Seeking.{nothing}
use Rattle.older.proofs.judging.hints_times.Given as goal

abbrev pub invariant-loop : goal.invariant-loop
invariant-loop l = Counted (λ more. Turn nothing nothing older_hint l.n l.s l.initial.next l.next more None) l.n l.counter
