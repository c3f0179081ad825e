use Rattle.rewrite.proofs.SubsectionLaws.{subsection_measured}
use Rattle.rewrite.proofs.subsections.subsection_length.Goals as goal

pub overflow_add-result : goal.overflow_add-result
overflow_add-result c = search subsection_measured
