use Rattle.stream.proofs.NameLaws.{beginnings}
use Rattle.stream.proofs.contents.named.Goals as goal

pub returns-then-valid : goal.returns-then-valid
returns-then-valid c = search beginnings

pub returns : goal.returns
returns c = search beginnings
