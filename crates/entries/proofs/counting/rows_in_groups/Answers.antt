use Rattle.entries.proofs.CountLaws.{counting}
use Rattle.entries.proofs.counting.rows_in_groups.Goals as goal

pub loop-place-init : goal.loop-place-init
loop-place-init c = search counting

pub rows_here-group-requires : goal.rows_here-group-requires
rows_here-group-requires c = search counting

pub loop-place-preserved : goal.loop-place-preserved
loop-place-preserved c = search counting

pub returns : goal.returns
returns c = search counting
