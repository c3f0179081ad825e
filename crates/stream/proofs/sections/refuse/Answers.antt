use Rattle.stream.proofs.SectionLaws.{starts}
use Rattle.stream.proofs.sections.refuse.Goals as goal

pub returns : goal.returns
returns c = search starts
