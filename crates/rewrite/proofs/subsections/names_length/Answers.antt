use Rattle.rewrite.proofs.SubsectionLaws.{names_measured}
use Rattle.rewrite.proofs.subsections.names_length.Goals as goal

pub frame_here-frame-requires : goal.frame_here-frame-requires
frame_here-frame-requires c = search names_measured

pub content_left-left-requires : goal.content_left-left-requires
content_left-left-requires c = search names_measured

pub subsection_length-size-requires : goal.subsection_length-size-requires
subsection_length-size-requires c = search names_measured

pub overflow_add-length : goal.overflow_add-length
overflow_add-length c = search names_measured

pub loop-next-smaller : goal.loop-next-smaller
loop-next-smaller c = search names_measured

pub loop-next-preserved : goal.loop-next-preserved
loop-next-preserved c = search names_measured

pub returns : goal.returns
returns c = search names_measured
