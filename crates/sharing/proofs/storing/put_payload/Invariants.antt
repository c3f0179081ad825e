use Prim.Native.Nat.{◌-◌}
use lib.ListN.{length}
use Rattle.sharing.proofs.StoreLaws.{Stored}
use Rattle.sharing.proofs.storing.put_payload.Given as goal

abbrev pub invariant-loop-from : goal.invariant-loop-from
invariant-loop-from l = Stored l.initial.store l.first l.q l.store l.at l.from

abbrev pub decreases-loop-from : goal.decreases-loop-from
decreases-loop-from l = length l.q - l.from
