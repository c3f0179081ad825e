use Rattle.entries.proofs.PutLaws.{putting}
use Rattle.entries.proofs.rows.put_rows.Goals as goal

pub loop-second-init : goal.loop-second-init
loop-second-init c = search putting

pub returns : goal.returns
returns c = search putting

pub put_row-requires-clause-room : goal.put_row-requires-clause-room
put_row-requires-clause-room c = search putting

pub loop-second-preserved : goal.loop-second-preserved
loop-second-preserved c = search putting
