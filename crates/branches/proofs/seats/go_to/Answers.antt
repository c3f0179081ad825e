use Rattle.branches.proofs.SeatSteps.{walking}
use Rattle.branches.proofs.seats.go_to.Goals as goal

pub returns-then-here-at : goal.returns-then-here-at
returns-then-here-at c = search walking

pub returns-then-wanted-gone : goal.returns-then-wanted-gone
returns-then-wanted-gone c = search walking

pub returns-then-wanted-gone-2 : goal.returns-then-wanted-gone-2
returns-then-wanted-gone-2 c = search walking

pub returns-in_default : goal.returns-in_default
returns-in_default c = search walking

pub loop-here-smaller : goal.loop-here-smaller
loop-here-smaller c = search walking

pub loop-here-preserved : goal.loop-here-preserved
loop-here-preserved c = search walking
