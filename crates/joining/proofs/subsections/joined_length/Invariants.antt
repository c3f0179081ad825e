use Prim.Native.Nat.{◌+◌, ◌-◌}
use Rattle.format.specs.Names.{kind_in}
use Rattle.joining.proofs.SubsectionLaws.{MeasuringJoined}
use Rattle.joining.proofs.subsections.joined_length.Given as goal

abbrev pub invariant-loop-sub : goal.invariant-loop-sub
invariant-loop-sub l = MeasuringJoined (kind_in l.edition) l.s l.initial.ours l.o l.initial.theirs l.ours l.theirs l.length

abbrev pub decreases-loop-sub : goal.decreases-loop-sub
decreases-loop-sub l = (l.ours.end - l.ours.at) + (l.theirs.end - l.theirs.at)
