use Rattle.format.specs.Laws.Counted.{Counted}
use Rattle.older.proofs.Steps.{Turn}
use Rattle.format.specs.Older.{older_hint, first_at}
use Rattle.older.specs.Seeking.{at_offset}
use Rattle.older.proofs.hints_times.Given as goal

abbrev pub invariant-loop : goal.invariant-loop
invariant-loop l = Counted (λ more. Turn (at_offset l.wanted) (first_at l.wanted) older_hint l.n l.s l.initial.next l.next more l.held) l.n l.counter
