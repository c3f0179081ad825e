use Rattle.walk.proofs.SurveyLaws.{survey_turns}
use Rattle.walk.proofs.survey.survey_from.Goals as goal

pub returns-in_err-s : goal.returns-in_err-s
returns-in_err-s c = search (c.in_err-s.ensures, survey_turns)

pub returns : goal.returns
returns c = search (c.in_ok-s.ensures, survey_turns)

pub loop-s-preserved : goal.loop-s-preserved
loop-s-preserved c = search (c.in_ok-s.ensures, survey_turns)
