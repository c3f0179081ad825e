use Rattle.listing.proofs.ListLaws.{answers}
use Rattle.listing.proofs.list.put_answer.Goals as goal

pub returns-in_default-found-clause-answer_put : goal.returns-in_default-found-clause-answer_put
returns-in_default-found-clause-answer_put c = search answers

pub returns-in_default-clause-answer_put : goal.returns-in_default-clause-answer_put
returns-in_default-clause-answer_put c = search answers

pub returns-clause-answer_put : goal.returns-clause-answer_put
returns-clause-answer_put c = search answers
