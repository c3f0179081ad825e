use Rattle.rewrite.proofs.ChangeLaws.{passed}
use Rattle.rewrite.proofs.subsections.first_changed.Goals as goal

pub frame_here-frame-requires : goal.frame_here-frame-requires
frame_here-frame-requires c = search passed

pub content_left-left-requires : goal.content_left-left-requires
content_left-left-requires c = search passed

pub subsection_length-requires : goal.subsection_length-requires
subsection_length-requires c = search passed

pub overflow_sub-after : goal.overflow_sub-after
overflow_sub-after c = search passed

pub returns-then-subsection_length-after : goal.returns-then-subsection_length-after
returns-then-subsection_length-after c = search passed

pub loop-next-smaller : goal.loop-next-smaller
loop-next-smaller c = search passed

pub loop-next-preserved : goal.loop-next-preserved
loop-next-preserved c = search passed

pub returns : goal.returns
returns c = search passed
