use Rattle.tables.proofs.FindLaws.{skipping}
use Rattle.tables.proofs.finding.behind_table.Goals as goal

pub rows_here-left-requires : goal.rows_here-left-requires
rows_here-left-requires c = search skipping

pub loop-next-init : goal.loop-next-init
loop-next-init c = search skipping

pub loop-next-preserved : goal.loop-next-preserved
loop-next-preserved c = search skipping

pub returns : goal.returns
returns c = search skipping
