use Rattle.branches.proofs.ImportSteps.{descriptions}
use Rattle.branches.proofs.imports.description_read.Goals as goal

pub returns-then-kind-eq-FUNCTION : goal.returns-then-kind-eq-FUNCTION
returns-then-kind-eq-FUNCTION c = search descriptions

pub returns-then-kind-eq-TABLE : goal.returns-then-kind-eq-TABLE
returns-then-kind-eq-TABLE c = search descriptions

pub returns-then-kind-eq-MEMORY : goal.returns-then-kind-eq-MEMORY
returns-then-kind-eq-MEMORY c = search descriptions

pub returns : goal.returns
returns c = search descriptions
