use Rattle.lists.proofs.Payloads.{writings}
use Rattle.lists.proofs.write.Goals as goal

pub returns-then-indices-eq0 : goal.returns-then-indices-eq0
returns-then-indices-eq0 c = search writings

pub returns-then-out-needed : goal.returns-then-out-needed
returns-then-out-needed c = search writings

pub returns : goal.returns
returns c = search writings
