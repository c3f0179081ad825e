use Rattle.format.specs.Bytes.{ascii}
use Rattle.format.specs.Walk.{name_section}
use Rattle.through.proofs.SectionLaws.{sections}
use Rattle.through.proofs.sections.name_section.Goals as goal

pub returns : goal.returns
unfolding ascii name_section
returns c = search sections
