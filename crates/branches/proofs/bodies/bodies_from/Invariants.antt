use Rattle.branches.proofs.LookLaws.{Passing}
use Rattle.branches.proofs.bodies.bodies_from.Given as goal

abbrev pub invariant-loop-first : goal.invariant-loop-first
invariant-loop-first l = Passing l.s (record { first = l.initial.first; next = l.initial.next; more = l.initial.more }) l.function l.first l.next l.more

abbrev pub decreases-loop-first : goal.decreases-loop-first
decreases-loop-first l = l.more
