use Rattle.stream.proofs.HoldLaws.{tidying_custom}
use Rattle.stream.proofs.holding.tidy_custom.Goals as goal

pub returns-then-s-eq-SIZING : goal.returns-then-s-eq-SIZING
returns-then-s-eq-SIZING c = search tidying_custom

pub returns-then-s-eq-NAMING : goal.returns-then-s-eq-NAMING
returns-then-s-eq-NAMING c = search tidying_custom

pub returns : goal.returns
returns c = search tidying_custom
