use Prim.Native.Nat.{◌+◌}
use Rattle.joining.proofs.GroupLaws.{PuttingGroups}
use Rattle.joining.proofs.groups.put_groups.Given as goal

abbrev pub invariant-loop-index : goal.invariant-loop-index
invariant-loop-index l = PuttingGroups l.s l.initial.ours l.o l.initial.theirs l.initial.out l.at l.out l.to l.ours l.theirs

abbrev pub decreases-loop-index : goal.decreases-loop-index
decreases-loop-index l = l.ours.more + l.theirs.more
