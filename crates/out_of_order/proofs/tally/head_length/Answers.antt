use Rattle.out_of_order.proofs.Tallies.{lengths}
use Rattle.out_of_order.proofs.tally.head_length.Goals as goal

pub returns : goal.returns
returns c = search lengths
