use Prim.Native.Nat.{◌+◌, ◌-◌}
use Rattle.format.specs.Names.{kind_in}
use Rattle.joining.proofs.SubsectionPuts.{PuttingJoined}
use Rattle.joining.proofs.subsections.put_joined.Given as goal

abbrev pub invariant-loop-sub : goal.invariant-loop-sub
invariant-loop-sub l = PuttingJoined (kind_in l.edition) l.s l.initial.ours l.o l.initial.theirs l.initial.out l.out l.place l.ours l.theirs

abbrev pub decreases-loop-sub : goal.decreases-loop-sub
decreases-loop-sub l = (l.ours.end - l.ours.at) + (l.theirs.end - l.theirs.at)
