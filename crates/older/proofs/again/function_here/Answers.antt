use Rattle.older.proofs.ReadAgain.{functions_again}
use Rattle.older.proofs.again.function_here.Goals as goal

pub number_here-function-requires : goal.number_here-function-requires
number_here-function-requires c = search functions_again

pub returns : goal.returns
returns c = search functions_again
