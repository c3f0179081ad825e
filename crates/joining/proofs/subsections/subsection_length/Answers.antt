use Rattle.joining.proofs.SubsectionLaws.{subsection_measured}
use Rattle.joining.proofs.subsections.subsection_length.Goals as goal

pub returns : goal.returns
returns c = search subsection_measured
