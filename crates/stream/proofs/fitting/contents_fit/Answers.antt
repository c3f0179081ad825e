use Rattle.stream.proofs.FitLaws.{parts_fit}
use Rattle.stream.proofs.fitting.contents_fit.Goals as goal

pub returns-then-s-eq-PAYING : goal.returns-then-s-eq-PAYING
returns-then-s-eq-PAYING c = search parts_fit

pub returns-then-s-eq-SIZING : goal.returns-then-s-eq-SIZING
returns-then-s-eq-SIZING c = search parts_fit

pub returns-then-s-eq-NAMING : goal.returns-then-s-eq-NAMING
returns-then-s-eq-NAMING c = search parts_fit

pub returns : goal.returns
returns c = search parts_fit
