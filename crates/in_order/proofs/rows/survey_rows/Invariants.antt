use Rattle.format.specs.Laws.Counted.{Counted}
use Rattle.in_order.proofs.Listing.{SurveyingRows}
use Rattle.in_order.proofs.rows.survey_rows.Given as goal

abbrev pub invariant-loop : goal.invariant-loop
invariant-loop l = Counted (λ more. SurveyingRows l.n l.s l.initial.next l.next more l.rising l.least l.rows) l.n l.counter
