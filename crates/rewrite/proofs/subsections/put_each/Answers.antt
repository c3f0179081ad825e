use Rattle.rewrite.proofs.SubsectionPuts.{each_written}
use Rattle.rewrite.proofs.subsections.put_each.Goals as goal

pub frame_here-frame-requires : goal.frame_here-frame-requires
frame_here-frame-requires c = search each_written

pub put_subsection-place-requires : goal.put_subsection-place-requires
put_subsection-place-requires c = search each_written

pub loop-next-smaller : goal.loop-next-smaller
loop-next-smaller c = search each_written

pub loop-next-preserved : goal.loop-next-preserved
loop-next-preserved c = search each_written

pub returns : goal.returns
returns c = search each_written
