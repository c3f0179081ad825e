use Rattle.tables.proofs.Hints.{is_hint_steps}
use Rattle.tables.proofs.is_hint.Goals as goal

pub returns-then-part-at-eq-HINT_SIZE : goal.returns-then-part-at-eq-HINT_SIZE
returns-then-part-at-eq-HINT_SIZE c = search is_hint_steps

pub returns : goal.returns
returns c = search is_hint_steps
