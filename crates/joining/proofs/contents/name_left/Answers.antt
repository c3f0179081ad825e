use Rattle.joining.proofs.ContentLaws.{name_measured}
use Rattle.joining.proofs.contents.name_left.Goals as goal

pub part_here-name-requires : goal.part_here-name-requires
part_here-name-requires c = search name_measured

pub sized_length-length-requires : goal.sized_length-length-requires
sized_length-length-requires c = search name_measured

pub returns : goal.returns
returns c = search name_measured
