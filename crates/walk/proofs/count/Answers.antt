use Rattle.walk.proofs.AnswerLaws.{walk_answers}
use Rattle.walk.proofs.count.Goals as goal

pub returns-in_err-found : goal.returns-in_err-found
returns-in_err-found c = search (c.in_err-found.ensures, walk_answers)

pub returns : goal.returns
returns c = search (c.in_ok-found.ensures, walk_answers)
