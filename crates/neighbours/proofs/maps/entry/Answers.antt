use Rattle.neighbours.proofs.Laws.{map_way}
use Rattle.neighbours.proofs.maps.entry.Goals as goal

pub rows_here-left-requires : goal.rows_here-left-requires
rows_here-left-requires c = search map_way

pub loop-k-init : goal.loop-k-init
loop-k-init c = search map_way

pub returns : goal.returns
returns c = search map_way

pub returns-then-key-k-2 : goal.returns-then-key-k-2
returns-then-key-k-2 c = search map_way

pub returns-then-key-k : goal.returns-then-key-k
returns-then-key-k c = search map_way

pub loop-k-preserved : goal.loop-k-preserved
loop-k-preserved c = search map_way
