use Rattle.format.specs.Older.{older_hint}
use Rattle.format.specs.OlderInOrder.{hints_bytes}
use Rattle.in_order.proofs.Putting.{Putting}
use Rattle.in_order.proofs.put_hints.Given as goal

abbrev pub invariant-loop-more : goal.invariant-loop-more
invariant-loop-more l = Putting older_hint hints_bytes l.n l.s l.initial.next l.initial.out l.at l.out l.to l.next l.more

abbrev pub decreases-loop-more : goal.decreases-loop-more
decreases-loop-more l = l.more
