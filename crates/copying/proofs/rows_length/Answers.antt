use Rattle.copying.proofs.Measuring.{counting}
use Rattle.copying.proofs.rows_length.Goals as goal

pub loop-index-init : goal.loop-index-init
loop-index-init c = search counting

pub sized_length-text-requires : goal.sized_length-text-requires
sized_length-text-requires c = search counting

pub overflow_add-length : goal.overflow_add-length
overflow_add-length c = search counting

pub loop-index-preserved : goal.loop-index-preserved
loop-index-preserved c = search counting

pub overflow_add-length-in-Some : goal.overflow_add-length-in-Some
overflow_add-length-in-Some c = search counting

pub returns : goal.returns
returns c = search counting
