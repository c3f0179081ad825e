use Prim.Native.Nat.{◌-◌}
use Rattle.format.specs.Names.{wider_kind}
use Rattle.names.proofs.TellLaws.{Telling}
use Rattle.names.proofs.telling_widely.is_canonical_widely.Given as goal

abbrev pub invariant-loop-read : goal.invariant-loop-read
invariant-loop-read l = Telling wider_kind l.p l.next l.least

abbrev pub decreases-loop-read : goal.decreases-loop-read
decreases-loop-read l = l.next.end - l.next.at
