use Prim.Native.Nat.{◌-◌}
use lib.ListN.{length}
use Rattle.markers.proofs.LookLaws.{Going}
use Rattle.markers.proofs.looking.in_blocks.Given as goal

abbrev pub invariant-loop-position : goal.invariant-loop-position
invariant-loop-position l = Going l.indices l.offsets l.end l.key l.position l.near

abbrev pub decreases-loop-position : goal.decreases-loop-position
decreases-loop-position l = length l.indices - l.position
