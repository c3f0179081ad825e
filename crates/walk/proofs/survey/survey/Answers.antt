use Rattle.walk.proofs.SurveyLaws.{surveys}
use Rattle.walk.proofs.survey.survey.Goals as goal

pub returns-in_err-first : goal.returns-in_err-first
returns-in_err-first c = search (c.in_err-first.ensures, surveys)

pub returns : goal.returns
returns c = search (c.in_ok-first.ensures, surveys)
