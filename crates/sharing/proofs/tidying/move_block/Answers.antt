use Rattle.sharing.proofs.TidyLaws.{movings}
use Rattle.sharing.proofs.tidying.move_block.Goals as goal

pub returns-then-from-to : goal.returns-then-from-to
returns-then-from-to c = search movings

pub loop-k-preserved : goal.loop-k-preserved
loop-k-preserved c = search movings

pub returns : goal.returns
returns c = search movings
