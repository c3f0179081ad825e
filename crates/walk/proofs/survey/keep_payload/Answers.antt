use Rattle.walk.proofs.SurveyLaws.{payloads_kept}
use Rattle.walk.proofs.survey.keep_payload.Goals as goal

pub returns-then-is_joined : goal.returns-then-is_joined
returns-then-is_joined c = search payloads_kept

pub returns-in-None-custom : goal.returns-in-None-custom
returns-in-None-custom c = search payloads_kept

pub returns-else-is_joined : goal.returns-else-is_joined
returns-else-is_joined c = search (c.in_ok-found.was, payloads_kept)
