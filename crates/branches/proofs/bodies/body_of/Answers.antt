use Rattle.branches.proofs.LookLaws.{looking}
use Rattle.branches.proofs.bodies.body_of.Goals as goal

pub returns-then-wanted-all : goal.returns-then-wanted-all
returns-then-wanted-all c = search looking

pub returns-then-more-eq0 : goal.returns-then-more-eq0
returns-then-more-eq0 c = search looking

pub part_here-body-requires : goal.part_here-body-requires
part_here-body-requires c = search looking

pub returns : goal.returns
returns c = search looking
