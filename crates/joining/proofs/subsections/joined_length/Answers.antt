use Rattle.joining.proofs.SubsectionLaws.{joined_measured}
use Rattle.joining.proofs.subsections.joined_length.Goals as goal

pub loop-sub-init : goal.loop-sub-init
loop-sub-init c = search joined_measured

pub next_subsection-requires-clause-known_frames : goal.next_subsection-requires-clause-known_frames
next_subsection-requires-clause-known_frames c = search joined_measured

pub next_subsection-requires-clause-known_frames_2 : goal.next_subsection-requires-clause-known_frames_2
next_subsection-requires-clause-known_frames_2 c = search joined_measured

pub returns : goal.returns
returns c = search joined_measured

pub subsection_length-requires : goal.subsection_length-requires
subsection_length-requires c = search joined_measured

pub returns-in_err-size : goal.returns-in_err-size
returns-in_err-size c = rw c.from_residual.ensures (search (c.in_err-size.was, joined_measured))

pub overflow_add-length : goal.overflow_add-length
overflow_add-length c = search (c.in_ok-size.was, joined_measured)

pub loop-sub-preserved : goal.loop-sub-preserved
loop-sub-preserved c = search (c.in_ok-size.was, joined_measured)
