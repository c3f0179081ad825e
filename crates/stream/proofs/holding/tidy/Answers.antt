use Rattle.stream.proofs.HoldLaws.{tidying}
use Rattle.stream.proofs.holding.tidy.Goals as goal

pub returns-then-s-eq-STARTING : goal.returns-then-s-eq-STARTING
returns-then-s-eq-STARTING c = search tidying

pub returns-then-s-eq-REFUSED : goal.returns-then-s-eq-REFUSED
returns-then-s-eq-REFUSED c = search tidying

pub returns-then-s-eq-SKIPPING : goal.returns-then-s-eq-SKIPPING
returns-then-s-eq-SKIPPING c = search tidying

pub returns-then-s-eq-PAYING : goal.returns-then-s-eq-PAYING
returns-then-s-eq-PAYING c = search tidying

pub returns-then-s-eq-BETWEEN : goal.returns-then-s-eq-BETWEEN
returns-then-s-eq-BETWEEN c = search tidying

pub returns-then-s-eq-MEASURING : goal.returns-then-s-eq-MEASURING
returns-then-s-eq-MEASURING c = search tidying
