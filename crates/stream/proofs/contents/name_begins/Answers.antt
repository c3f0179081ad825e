use Rattle.stream.proofs.NameLaws.{beginnings}
use Rattle.stream.proofs.contents.name_begins.Goals as goal

pub returns-then-n-eq0 : goal.returns-then-n-eq0
returns-then-n-eq0 c = search beginnings

pub returns : goal.returns
returns c = search beginnings
