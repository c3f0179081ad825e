use Prim.Native.Nat.{◌-◌}
use lib.ListN.{length}
use Rattle.stream.proofs.HeadLaws.{Going}
use Rattle.stream.proofs.heads.sections_on.Given as goal

abbrev pub invariant-loop-known : goal.invariant-loop-known
invariant-loop-known l = Going l.base l.part l.initial.known l.known

abbrev pub decreases-loop-known : goal.decreases-loop-known
decreases-loop-known l = length l.part - l.known.at
