use Rattle.format.proofs.Nested.{handed_on}
use Rattle.through.proofs.ThroughLaws.{metadata_questions}
use Rattle.through.proofs.metadata.Goals as goal

pub returns-in_default : goal.returns-in_default
returns-in_default c = search (c.in_ok-place.was, metadata_questions)

pub over-requires : goal.over-requires
over-requires c = search (c.in_ok-place.was, metadata_questions)

pub find_in-requires : goal.find_in-requires
find_in-requires c = search (c.in_ok-place.was, metadata_questions)

pub returns : goal.returns
returns c = search (c.in_ok-place.was, metadata_questions)

pub returns-in_err-place : goal.returns-in_err-place
returns-in_err-place c = rw (handed_on c.from_residual.result c.from_residual.ensures) (search (c.in_err-place.was, metadata_questions))
