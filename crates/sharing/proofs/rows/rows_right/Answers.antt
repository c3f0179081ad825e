use Rattle.sharing.proofs.RowLaws.{walks}
use Rattle.sharing.proofs.rows.rows_right.Goals as goal

pub loop-b-preserved : goal.loop-b-preserved
loop-b-preserved c = search walks

pub returns-else-row_right : goal.returns-else-row_right
returns-else-row_right c = search walks

pub returns : goal.returns
returns c = search walks
