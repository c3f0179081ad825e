use Rattle.format.specs.Laws.Counted.{Counted}
use Rattle.instructions.specs.Immediates.{indices}
use Rattle.instructions.proofs.PieceSteps.{Still}
use Rattle.instructions.proofs.pieces.indices.Given as goal

abbrev pub invariant-loop : goal.invariant-loop
invariant-loop l = Counted (λ more. Still (indices l.n) (indices more) l.s l.initial.next l.next) l.n l.counter
