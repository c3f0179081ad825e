use Rattle.markers.proofs.MarkLaws.{marking}
use Rattle.markers.proofs.making.mark.Goals as goal

pub rows_here-all-requires : goal.rows_here-all-requires
rows_here-all-requires c = search marking

pub returns-then-indices-count : goal.returns-then-indices-count
returns-then-indices-count c = search marking

pub returns-then-offsets-count : goal.returns-then-offsets-count
returns-then-offsets-count c = search marking

pub put_markers-requires : goal.put_markers-requires
put_markers-requires c = search marking

pub returns-then-count-gt0 : goal.returns-then-count-gt0
returns-then-count-gt0 c = search marking

pub returns-else-count-gt0 : goal.returns-else-count-gt0
returns-else-count-gt0 c = search marking
