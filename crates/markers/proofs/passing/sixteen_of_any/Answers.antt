use Rattle.markers.proofs.PassLaws.{one_by_one}
use Rattle.markers.proofs.passing.sixteen_of_any.Goals as goal

pub loop-k-init : goal.loop-k-init
loop-k-init c = search one_by_one

pub behind_entry-next-requires : goal.behind_entry-next-requires
behind_entry-next-requires c = search one_by_one

pub loop-k-preserved : goal.loop-k-preserved
loop-k-preserved c = search one_by_one

pub returns : goal.returns
returns c = search one_by_one
