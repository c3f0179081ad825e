use Rattle.entries.proofs.GroupLaws.{grouping}
use Rattle.entries.proofs.hints.put_functions.Goals as goal

pub loop-first-init : goal.loop-first-init
loop-first-init c = search grouping

pub returns : goal.returns
returns c = search grouping

pub rows_here-group-requires : goal.rows_here-group-requires
rows_here-group-requires c = search grouping

pub put_function-put-requires : goal.put_function-put-requires
put_function-put-requires c = search grouping

pub loop-first-preserved : goal.loop-first-preserved
loop-first-preserved c = search grouping
