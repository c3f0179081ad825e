use borrow.Author.Rules.{rules}
use Rattle.walk.proofs.SurveyLaws.{tally_is}
use Rattle.walk.proofs.survey.tallied.Goals as goal

pub returns : goal.returns
returns c = search (tally_is, rules)
