use Rattle.rewrite.proofs.PutLaws.{one_put}
use Rattle.joining.proofs.contents.put_name.Goals as goal

pub part_here-name-requires : goal.part_here-name-requires
part_here-name-requires c = search one_put

pub put_part-requires : goal.put_part-requires
put_part-requires c = search one_put

pub returns : goal.returns
returns c = search one_put
