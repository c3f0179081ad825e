use Rattle.out_of_order.proofs.Tallies.{lengths}
use Rattle.out_of_order.proofs.tally.hint_length.Goals as goal

pub returns : goal.returns
returns c = search lengths
