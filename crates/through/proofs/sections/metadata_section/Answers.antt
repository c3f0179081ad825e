use Rattle.format.specs.Bytes.{ascii}
use Rattle.format.specs.Through.{metadata_section}
use Rattle.through.proofs.SectionLaws.{sections}
use Rattle.through.proofs.sections.metadata_section.Goals as goal

pub returns : goal.returns
unfolding ascii metadata_section
returns c = search sections
