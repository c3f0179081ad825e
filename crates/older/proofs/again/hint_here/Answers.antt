use Rattle.older.proofs.ReadAgain.{hints_again}
use Rattle.older.proofs.again.hint_here.Goals as goal

pub number_here-kind-requires : goal.number_here-kind-requires
number_here-kind-requires c = search hints_again

pub number_here-offset-requires : goal.number_here-offset-requires
number_here-offset-requires c = search hints_again

pub returns : goal.returns
returns c = search hints_again
