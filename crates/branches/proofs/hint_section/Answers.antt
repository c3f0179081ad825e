use Rattle.format.specs.Bytes.{ascii}
use Rattle.format.specs.Walk.{hint_section}
use Rattle.branches.proofs.CheckSteps.{hint_sections}
use Rattle.branches.proofs.hint_section.Goals as goal

pub returns : goal.returns
unfolding ascii hint_section
returns c = search hint_sections
