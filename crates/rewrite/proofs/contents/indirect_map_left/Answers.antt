use Rattle.rewrite.proofs.ContentLaws.{groups_measured}
use Rattle.rewrite.proofs.contents.indirect_map_left.Goals as goal

pub number_here-all-requires : goal.number_here-all-requires
number_here-all-requires c = search groups_measured

pub groups_length-groups-requires : goal.groups_length-groups-requires
groups_length-groups-requires c = search groups_measured

pub returns-then-count-eq0 : goal.returns-then-count-eq0
returns-then-count-eq0 c = search groups_measured

pub overflow_add-length : goal.overflow_add-length
overflow_add-length c = search groups_measured

pub returns : goal.returns
returns c = search groups_measured
