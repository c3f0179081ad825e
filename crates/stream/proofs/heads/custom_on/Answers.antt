use Rattle.stream.proofs.HeadLaws.{custom_sections}
use Rattle.stream.proofs.heads.custom_on.Goals as goal

pub returns-then-here-all : goal.returns-then-here-all
returns-then-here-all c = search custom_sections

pub returns-in-Ok : goal.returns-in-Ok
returns-in-Ok c = search custom_sections
