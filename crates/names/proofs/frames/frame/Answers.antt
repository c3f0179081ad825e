use Rattle.names.proofs.FrameSteps.{frame_steps}
use Rattle.names.proofs.frames.frame.Goals as goal

pub returns-then-end-at : goal.returns-then-end-at
returns-then-end-at c = search frame_steps

pub returns-then-wide-least : goal.returns-then-wide-least
returns-then-wide-least c = search frame_steps

pub returns : goal.returns
returns c = search (c.in_ok-part.was, frame_steps)

pub returns-in_err-part : goal.returns-in_err-part
returns-in_err-part c = search (c.in_err-part.was, frame_steps)
