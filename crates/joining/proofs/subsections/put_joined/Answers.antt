use Rattle.joining.proofs.SubsectionPuts.{joined_written}
use Rattle.joining.proofs.subsections.put_joined.Goals as goal

pub loop-sub-init : goal.loop-sub-init
loop-sub-init c = search joined_written

pub next_subsection-requires-clause-known_frames : goal.next_subsection-requires-clause-known_frames
next_subsection-requires-clause-known_frames c = search joined_written

pub next_subsection-requires-clause-known_frames_2 : goal.next_subsection-requires-clause-known_frames_2
next_subsection-requires-clause-known_frames_2 c = search joined_written

pub returns : goal.returns
returns c = search joined_written

pub put_subsection-place-requires : goal.put_subsection-place-requires
put_subsection-place-requires c = search joined_written

pub loop-sub-preserved : goal.loop-sub-preserved
loop-sub-preserved c = search joined_written
