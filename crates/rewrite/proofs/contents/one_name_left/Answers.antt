use Rattle.rewrite.proofs.ContentLaws.{one_measured}
use Rattle.rewrite.proofs.contents.one_name_left.Goals as goal

pub part_here-name-requires : goal.part_here-name-requires
part_here-name-requires c = search one_measured

pub sized_length-length-requires : goal.sized_length-length-requires
sized_length-length-requires c = search one_measured

pub returns : goal.returns
returns c = search one_measured
