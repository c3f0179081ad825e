use Rattle.format.specs.Bytes.{ascii}
use Rattle.format.specs.Walk.{name_section, hint_section}
use Rattle.stream.proofs.Leaves.{matching}
use Rattle.stream.proofs.naming.meet.Goals as goal

pub returns : goal.returns
unfolding ascii name_section hint_section
returns c = search matching
