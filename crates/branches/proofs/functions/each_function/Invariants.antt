use Rattle.branches.proofs.FunctionSteps.{Going}
use Rattle.branches.proofs.functions.each_function.Given as goal

abbrev pub invariant-loop-more : goal.invariant-loop-more
invariant-loop-more l = Going l.s l.initial.next l.initial.more l.initial.bodies l.next l.more l.bodies

abbrev pub decreases-loop-more : goal.decreases-loop-more
decreases-loop-more l = l.more
