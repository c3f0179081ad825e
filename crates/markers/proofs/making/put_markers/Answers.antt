use Rattle.markers.proofs.PutLaws.{putting}
use Rattle.markers.proofs.making.put_markers.Goals as goal

pub loop-left-init : goal.loop-left-init
loop-left-init c = search putting

pub index_here-index-requires : goal.index_here-index-requires
index_here-index-requires c = search putting

pub bounds-indices-k : goal.bounds-indices-k
bounds-indices-k c = search putting

pub bounds-offsets-k : goal.bounds-offsets-k
bounds-offsets-k c = search putting

pub returns-then-left-le-STRIDE : goal.returns-then-left-le-STRIDE
returns-then-left-le-STRIDE c = search putting

pub sixteen_on-left-requires-clause-known : goal.sixteen_on-left-requires-clause-known
sixteen_on-left-requires-clause-known c = search putting

pub loop-left-preserved : goal.loop-left-preserved
loop-left-preserved c = search putting
