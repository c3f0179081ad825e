use Rattle.pairs.proofs.Laws.{settles}
use Rattle.pairs.proofs.ask.Goals as goal

pub returns-in-Err : goal.returns-in-Err
returns-in-Err c = search settles

pub returns-in-None : goal.returns-in-None
returns-in-None c = search settles

pub returns-in-Some : goal.returns-in-Some
returns-in-Some c = search settles
