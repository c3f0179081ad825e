use Rattle.older.proofs.Steps.{zero_steps}
use Rattle.older.proofs.judging.zero_byte.Goals as goal

pub returns-then-end-at : goal.returns-then-end-at
returns-then-end-at c = search zero_steps

pub returns-then-zero-eq-ZERO : goal.returns-then-zero-eq-ZERO
returns-then-zero-eq-ZERO c = search zero_steps

pub returns : goal.returns
returns c = search zero_steps
