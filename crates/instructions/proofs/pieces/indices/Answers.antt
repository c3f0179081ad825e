use Prim.Native.Nat.{◌-◌}
use native.Mathlib.Omega.{arith}
use Rattle.instructions.proofs.PieceSteps.{indices_turns}
use Rattle.instructions.proofs.pieces.indices.Goals as goal

pub loop-init : goal.loop-init
loop-init c = record { left = c.args.n; all = omega arith; holds = search indices_turns }

pub index-requires : goal.index-requires
index-requires c = search indices_turns

pub returns-in_err-next : goal.returns-in_err-next
returns-in_err-next c = let t = c.loop.invariant in search (c.in_err-next.ensures, indices_turns)

pub loop-preserved : goal.loop-preserved
loop-preserved c = let t = c.loop.invariant in record { left = t.left - 1; all = omega (arith, t.all, c.loop-test.true); holds = search indices_turns }

pub returns : goal.returns
returns c = let t = c.loop.invariant in search indices_turns
