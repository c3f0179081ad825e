use Rattle.format.specs.Bytes.{ascii}
use Rattle.format.specs.Walk.{hint_section}
use Rattle.through.proofs.SectionLaws.{sections}
use Rattle.through.proofs.sections.hint_section.Goals as goal

pub returns : goal.returns
unfolding ascii hint_section
returns c = search sections
