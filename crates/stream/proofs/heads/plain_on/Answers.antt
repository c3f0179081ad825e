use Rattle.stream.proofs.HeadLaws.{plain_sections}
use Rattle.stream.proofs.heads.plain_on.Goals as goal

pub returns-then-here-all : goal.returns-then-here-all
returns-then-here-all c = search plain_sections

pub returns : goal.returns
returns c = search plain_sections
