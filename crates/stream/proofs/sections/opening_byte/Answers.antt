use Rattle.stream.proofs.SectionLaws.{openings}
use Rattle.stream.proofs.sections.opening_byte.Goals as goal

pub returns-in-Err : goal.returns-in-Err
returns-in-Err c = search openings

pub returns-in-Ok : goal.returns-in-Ok
returns-in-Ok c = search openings
