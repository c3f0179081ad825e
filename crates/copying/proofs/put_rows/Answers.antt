use Rattle.copying.proofs.Putting.{putting}
use Rattle.copying.proofs.put_rows.Goals as goal

pub loop-index-init : goal.loop-index-init
loop-index-init c = search putting

pub put_number-text-requires : goal.put_number-text-requires
put_number-text-requires c = search putting

pub put_part-to-requires : goal.put_part-to-requires
put_part-to-requires c = search putting

pub loop-index-preserved : goal.loop-index-preserved
loop-index-preserved c = search putting

pub returns : goal.returns
returns c = search putting
