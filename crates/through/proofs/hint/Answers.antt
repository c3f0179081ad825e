use Rattle.format.proofs.Nested.{handed_on}
use Rattle.through.proofs.ThroughLaws.{hint_questions}
use Rattle.through.proofs.hint.Goals as goal

pub returns-in_err-place : goal.returns-in_err-place
returns-in_err-place c = rw (handed_on c.from_residual.result c.from_residual.ensures) (search (c.in_err-place.was, hint_questions))

pub returns-in_default : goal.returns-in_default
returns-in_default c = search (c.in_ok-place.was, hint_questions)

pub over-requires : goal.over-requires
over-requires c = search (c.in_ok-place.was, hint_questions)

pub hint_in-requires : goal.hint_in-requires
hint_in-requires c = search (c.in_ok-place.was, hint_questions)

pub returns : goal.returns
returns c = search (c.in_ok-place.was, hint_questions)
