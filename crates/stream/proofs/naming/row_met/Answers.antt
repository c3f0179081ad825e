use Rattle.stream.proofs.Leaves.{matching}
use Rattle.stream.proofs.naming.row_met.Goals as goal

pub returns-then-met-eq-NAME_LENGTH : goal.returns-then-met-eq-NAME_LENGTH
returns-then-met-eq-NAME_LENGTH c = search matching

pub returns-then-met-eq-HINT_LENGTH : goal.returns-then-met-eq-HINT_LENGTH
returns-then-met-eq-HINT_LENGTH c = search matching

pub returns-then-met-eq-OLDER_LENGTH : goal.returns-then-met-eq-OLDER_LENGTH
returns-then-met-eq-OLDER_LENGTH c = search matching

pub returns : goal.returns
returns c = search matching
