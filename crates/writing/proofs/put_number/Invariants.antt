use Rattle.writing.proofs.NumberLaws.{Numbered}
use Rattle.writing.proofs.put_number.Given as goal

abbrev pub invariant-loop-rest : goal.invariant-loop-rest
invariant-loop-rest l = Numbered l.initial.out l.at l.n l.out l.next l.rest

abbrev pub decreases-loop-rest : goal.decreases-loop-rest
decreases-loop-rest l = l.rest
