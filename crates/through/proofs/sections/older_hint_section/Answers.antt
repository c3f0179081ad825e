use Rattle.format.specs.Bytes.{ascii}
use Rattle.through.proofs.SectionLaws.{sections}
use Rattle.through.proofs.sections.older_hint_section.Goals as goal

pub returns : goal.returns
unfolding ascii
returns c = search sections
