use Prim.Native.Nat.{◌-◌}
use Rattle.format.specs.Names.{known_kind}
use Rattle.names.proofs.TellLaws.{Telling}
use Rattle.names.proofs.telling.is_canonical.Given as goal

abbrev pub invariant-loop-read : goal.invariant-loop-read
invariant-loop-read l = Telling known_kind l.p l.next l.least

abbrev pub decreases-loop-read : goal.decreases-loop-read
decreases-loop-read l = l.next.end - l.next.at
