use Prim.Native.Nat.{◌-◌}
use lib.ListN.{length}
use Rattle.stream.proofs.FeedLaws.{Turn}
use Rattle.stream.proofs.feeding.feed_from.Given as goal

abbrev pub invariant-loop-i : goal.invariant-loop-i
invariant-loop-i l = Turn l.initial.current l.part l.initial.i l.base l.current l.i

abbrev pub decreases-loop-i : goal.decreases-loop-i
decreases-loop-i l = length l.part - l.i
