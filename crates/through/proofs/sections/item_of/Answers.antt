use Rattle.format.specs.Bytes.{ascii}
use Rattle.through.proofs.SectionLaws.{sections}
use Rattle.through.proofs.sections.item_of.Goals as goal

pub returns-then-is_called : goal.returns-then-is_called
unfolding ascii
returns-then-is_called c = search sections

pub returns : goal.returns
unfolding ascii
returns c = search sections
