use Rattle.markers.proofs.AskLaws.{Reading}
use Rattle.markers.proofs.asking.first_with.Given as goal

abbrev pub invariant-loop-more : goal.invariant-loop-more
invariant-loop-more l = Reading l.s l.initial.next l.key l.next l.more

abbrev pub decreases-loop-more : goal.decreases-loop-more
decreases-loop-more l = l.more
