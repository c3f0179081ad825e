use Prim.Native.Nat.{◌+◌}
use Rattle.joining.proofs.MapLaws.{PuttingMaps}
use Rattle.joining.proofs.maps.put_ahead.Given as goal

abbrev pub invariant-loop-row : goal.invariant-loop-row
invariant-loop-row l = PuttingMaps l.s l.initial.ours.rows l.o l.initial.theirs.rows l.initial.out l.at l.out l.to l.ours l.theirs

abbrev pub decreases-loop-row : goal.decreases-loop-row
decreases-loop-row l = l.ours.rows.more + l.theirs.rows.more
