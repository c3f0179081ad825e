use Prim.Native.Nat.{◌-◌}
use mathlib.Core.List.{◌++◌}
use lib.ListN.{length}
use Rattle.walk.proofs.SurveyLaws.{Turn}
use Rattle.walk.proofs.survey.survey_from.Given as goal

abbrev pub invariant-loop-s : goal.invariant-loop-s
invariant-loop-s l = Turn l.m l.position (l.front ++ l.rest) l.initial.walk l.walk l.tally

abbrev pub decreases-loop-s : goal.decreases-loop-s
decreases-loop-s l = length l.m - l.walk.at
