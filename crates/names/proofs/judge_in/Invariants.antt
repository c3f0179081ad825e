use Prim.Native.Nat.{◌-◌}
use Rattle.format.specs.Names.{kind_in}
use Rattle.names.proofs.JudgeLaws.{Turn}
use Rattle.names.proofs.judge_in.Given as goal

abbrev pub invariant-loop-id : goal.invariant-loop-id
invariant-loop-id l = Turn (kind_in l.edition) l.s (record { at = l.initial.at; end = l.end }) (record { at = l.at; end = l.end }) l.least

abbrev pub decreases-loop-id : goal.decreases-loop-id
decreases-loop-id l = l.end - l.at
