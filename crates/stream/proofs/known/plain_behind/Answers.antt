use Rattle.stream.proofs.KnownLaws.{plains}
use Rattle.stream.proofs.known.plain_behind.Goals as goal

pub returns : goal.returns
returns c = search plains
