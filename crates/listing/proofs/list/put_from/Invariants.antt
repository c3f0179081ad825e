use Prim.Native.Nat.{◌-◌}
use lib.ListN.{length}
use Rattle.listing.proofs.ListLaws.{Turn}
use Rattle.listing.proofs.list.put_from.Given as goal

abbrev pub invariant-loop-read : goal.invariant-loop-read
invariant-loop-read l = Turn l.m l.initial.walk l.walk l.initial.out l.out l.at l.next

abbrev pub decreases-loop-read : goal.decreases-loop-read
decreases-loop-read l = length l.m - l.walk.at
