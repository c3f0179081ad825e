use Prim.Native.Nat.{◌+◌}
use Rattle.joining.proofs.MapLaws.{MeasuringMaps}
use Rattle.joining.proofs.maps.ahead_length.Given as goal

abbrev pub invariant-loop-row : goal.invariant-loop-row
invariant-loop-row l = MeasuringMaps l.s l.initial.ours.rows l.o l.initial.theirs.rows l.ours l.theirs l.count l.length

abbrev pub decreases-loop-row : goal.decreases-loop-row
decreases-loop-row l = l.ours.rows.more + l.theirs.rows.more
