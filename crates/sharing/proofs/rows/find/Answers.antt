use Rattle.sharing.proofs.FindLaws.{finds}
use Rattle.sharing.proofs.rows.find.Goals as goal

pub row_holds-requires : goal.row_holds-requires
row_holds-requires c = search finds

pub returns-then-row_holds : goal.returns-then-row_holds
returns-then-row_holds c = search finds

pub loop-b-preserved : goal.loop-b-preserved
loop-b-preserved c = search finds

pub returns : goal.returns
returns c = search finds
