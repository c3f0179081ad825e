use Prim.Native.Nat.{◌-◌}
use Rattle.stream.proofs.NameLaws.{Spelt}
use Rattle.stream.proofs.contents.spell_bytes.Given as goal

abbrev pub invariant-loop-i : goal.invariant-loop-i
invariant-loop-i l = Spelt l.part l.from l.to l.initial.text l.initial.met l.text l.met l.i

abbrev pub decreases-loop-i : goal.decreases-loop-i
decreases-loop-i l = l.to - l.i
