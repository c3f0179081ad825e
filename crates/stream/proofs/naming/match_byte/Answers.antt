use Rattle.stream.proofs.Leaves.{matching}
use Rattle.stream.proofs.naming.match_byte.Goals as goal

pub returns-then-name-at : goal.returns-then-name-at
returns-then-name-at c = search matching

pub returns-then-name-at-2 : goal.returns-then-name-at-2
returns-then-name-at-2 c = search matching

pub returns : goal.returns
returns c = search matching
