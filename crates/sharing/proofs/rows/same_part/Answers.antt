use Rattle.sharing.proofs.RowLaws.{compares}
use Rattle.sharing.proofs.rows.same_part.Goals as goal

pub loop-k-preserved : goal.loop-k-preserved
loop-k-preserved c = search compares

pub returns-else-s-at : goal.returns-else-s-at
returns-else-s-at c = search compares

pub returns : goal.returns
returns c = search compares
