use Prim.Native.Nat.{◌-◌}
use Rattle.format.specs.Names.{kind_in}
use Rattle.rewrite.proofs.SubsectionLaws.{CountingNames}
use Rattle.rewrite.proofs.subsections.names_length.Given as goal

abbrev pub invariant-loop-next : goal.invariant-loop-next
invariant-loop-next l = CountingNames (kind_in l.edition) l.s l.initial.next l.next l.length

abbrev pub decreases-loop-next : goal.decreases-loop-next
decreases-loop-next l = l.next.end - l.next.at
