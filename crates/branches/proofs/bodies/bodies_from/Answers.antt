use Rattle.branches.proofs.LookLaws.{passing}
use Rattle.branches.proofs.bodies.bodies_from.Goals as goal

pub loop-first-init : goal.loop-first-init
loop-first-init c = search passing

pub returns-then-more-eq0 : goal.returns-then-more-eq0
returns-then-more-eq0 c = search passing

pub part_here-body-requires : goal.part_here-body-requires
part_here-body-requires c = search passing

pub loop-first-preserved : goal.loop-first-preserved
loop-first-preserved c = search passing
