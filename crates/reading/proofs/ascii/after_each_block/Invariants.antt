use Prim.Native.Nat.{◌-◌}
use Rattle.reading.specs.Texts.{Passes}
use Rattle.reading.proofs.ascii.after_each_block.Given as goal

abbrev pub invariant-loop-i : goal.invariant-loop-i
invariant-loop-i l = Passes l.s l.from l.to l.i

abbrev pub decreases-loop-i : goal.decreases-loop-i
decreases-loop-i l = l.to - l.i
