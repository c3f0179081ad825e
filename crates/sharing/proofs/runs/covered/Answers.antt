use Rattle.sharing.proofs.RunLaws.{covers}
use Rattle.sharing.proofs.runs.covered.Goals as goal

pub returns-then-users-eq0 : goal.returns-then-users-eq0
returns-then-users-eq0 c = search covers

pub returns-then-own-cover : goal.returns-then-own-cover
returns-then-own-cover c = search covers

pub returns : goal.returns
returns c = search covers
