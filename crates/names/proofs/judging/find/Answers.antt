use Rattle.names.proofs.JudgeLaws.{find_turns}
use Rattle.names.proofs.judging.find.Goals as goal

pub loop-next-init : goal.loop-next-init
loop-next-init c = search find_turns

pub frame_here-here-requires : goal.frame_here-here-requires
frame_here-here-requires c = search find_turns

pub returns-then-here-id : goal.returns-then-here-id
returns-then-here-id c = search find_turns

pub loop-next-smaller : goal.loop-next-smaller
loop-next-smaller c = search find_turns

pub loop-next-preserved : goal.loop-next-preserved
loop-next-preserved c = search find_turns

pub returns : goal.returns
returns c = search find_turns
