use Prim.Native.Nat.{◌-◌}
use lib.ListN.{length}
use Rattle.sharing.proofs.FindLaws.{Held}
use Rattle.sharing.proofs.rows.holds_payload.Given as goal

abbrev pub invariant-loop-from : goal.invariant-loop-from
invariant-loop-from l = Held l.store l.first l.q l.at l.from

abbrev pub decreases-loop-from : goal.decreases-loop-from
decreases-loop-from l = length l.q - l.from
