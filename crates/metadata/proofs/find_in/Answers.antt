use Rattle.metadata.proofs.AnswerLaws.{finds}
use Rattle.metadata.proofs.find_in.Goals as goal

pub returns-in_err-held : goal.returns-in_err-held
returns-in_err-held c = search (c.in_err-held.ensures, finds)

pub answer_of-requires : goal.answer_of-requires
answer_of-requires c = search (c.in_ok-held.ensures, finds)

pub returns : goal.returns
returns c = search (c.in_ok-held.ensures, finds)
