use Rattle.rewrite.proofs.ContentLaws.{map_measured}
use Rattle.rewrite.proofs.contents.name_map_left.Goals as goal

pub number_here-entries-requires : goal.number_here-entries-requires
number_here-entries-requires c = search map_measured

pub returns-then-count-eq0 : goal.returns-then-count-eq0
returns-then-count-eq0 c = search map_measured

pub rows_length-rows-requires : goal.rows_length-rows-requires
rows_length-rows-requires c = search map_measured

pub overflow_add-length : goal.overflow_add-length
overflow_add-length c = search map_measured

pub returns : goal.returns
returns c = search map_measured
