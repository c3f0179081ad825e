use Rattle.neighbours.proofs.Laws.{group_way}
use Rattle.neighbours.proofs.maps.entry_within.Goals as goal

pub rows_here-left-requires : goal.rows_here-left-requires
rows_here-left-requires c = search group_way

pub loop-k-init : goal.loop-k-init
loop-k-init c = search group_way

pub returns : goal.returns
returns c = search group_way

pub returns-then-key-k-2 : goal.returns-then-key-k-2
returns-then-key-k-2 c = search group_way

pub returns-then-key-k : goal.returns-then-key-k
returns-then-key-k c = search group_way

pub loop-k-preserved : goal.loop-k-preserved
loop-k-preserved c = search group_way
