use Prim.Native.Nat.{◌-◌}
use Rattle.format.specs.Names.{kind_in}
use Rattle.rewrite.proofs.SubsectionPuts.{PuttingNames}
use Rattle.rewrite.proofs.subsections.put_each.Given as goal

abbrev pub invariant-loop-next : goal.invariant-loop-next
invariant-loop-next l = PuttingNames (kind_in l.edition) l.s l.initial.next l.initial.out l.out l.initial.place l.place l.next

abbrev pub decreases-loop-next : goal.decreases-loop-next
decreases-loop-next l = l.next.end - l.next.at
