use Prim.Native.Nat.{◌+◌}
use Rattle.joining.proofs.GroupLaws.{MeasuringGroups}
use Rattle.joining.proofs.groups.groups_length.Given as goal

abbrev pub invariant-loop-index : goal.invariant-loop-index
invariant-loop-index l = MeasuringGroups l.s l.initial.ours l.o l.initial.theirs l.ours l.theirs l.kept l.length

abbrev pub decreases-loop-index : goal.decreases-loop-index
decreases-loop-index l = l.ours.more + l.theirs.more
