use Rattle.in_order.proofs.Surveying.{rising_steps}
use Rattle.in_order.proofs.still_rising.Goals as goal

pub returns-then-rising : goal.returns-then-rising
returns-then-rising c = search rising_steps

pub returns : goal.returns
returns c = search rising_steps
