use Rattle.joining.proofs.FrameLaws.{next_subsections}
use Rattle.joining.proofs.subsections.next_subsection.Goals as goal

pub returns-then-i-j : goal.returns-then-i-j
returns-then-i-j c = search next_subsections

pub returns-then-j-i : goal.returns-then-j-i
returns-then-j-i c = search next_subsections

pub returns-in-Some-frame_here : goal.returns-in-Some-frame_here
returns-in-Some-frame_here c = search next_subsections

pub returns-in-None-frame_here-2 : goal.returns-in-None-frame_here-2
returns-in-None-frame_here-2 c = search next_subsections

pub returns-else-j-i : goal.returns-else-j-i
returns-else-j-i c = search next_subsections
