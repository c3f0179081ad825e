use Rattle.stream.proofs.FitLaws.{fitting}
use Rattle.stream.proofs.fitting.fit.Goals as goal

pub returns-then-s-eq-STARTING : goal.returns-then-s-eq-STARTING
returns-then-s-eq-STARTING c = search fitting

pub returns-then-s-eq-BETWEEN : goal.returns-then-s-eq-BETWEEN
returns-then-s-eq-BETWEEN c = search fitting

pub returns-then-s-eq-REFUSED : goal.returns-then-s-eq-REFUSED
returns-then-s-eq-REFUSED c = search fitting

pub returns-then-s-eq-SKIPPING : goal.returns-then-s-eq-SKIPPING
returns-then-s-eq-SKIPPING c = search fitting

pub returns-then-s-eq-MEASURING : goal.returns-then-s-eq-MEASURING
returns-then-s-eq-MEASURING c = search fitting
