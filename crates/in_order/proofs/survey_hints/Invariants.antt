use Rattle.in_order.proofs.Surveying.{SurveyingHints}
use Rattle.in_order.proofs.survey_hints.Given as goal

abbrev pub invariant-loop-more : goal.invariant-loop-more
invariant-loop-more l = SurveyingHints l.n l.s l.initial.next l.next l.more l.rising l.least l.length

abbrev pub decreases-loop-more : goal.decreases-loop-more
decreases-loop-more l = l.more
