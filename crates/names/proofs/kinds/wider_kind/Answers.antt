use Prim.Native.Nat.{◌<◌, ◌≤◌}
use mathlib.Core.Logic.{◌⊎◌, inl, inr}
use Rattle.names.proofs.ContentLaws.{kind_steps}
use native.Mathlib.Omega.{arith}
use Rattle.names.proofs.kinds.wider_kind.Goals as goal
use Rattle.names.proofs.kinds.wider_kind.Goals.{in_default-via-then-id-lt5, in_default-via-else-id-lt5+else-id-lt10}

pub returns-in-3 : goal.returns-in-3
returns-in-3 c = search kind_steps

pub returns-in-5 : goal.returns-in-5
returns-in-5 c = search kind_steps

pub returns-in_default : goal.returns-in_default
returns-in_default c =
    let id = c.args.id in
    let far : (id < 5) ⊎ (10 ≤ id) = elim c.in_default.branch [ in_default-via-then-id-lt5 w ↦ inl (omega arith) | in_default-via-else-id-lt5+else-id-lt10 w ↦ inr (omega arith) ] in
    search (kind_steps, far)
