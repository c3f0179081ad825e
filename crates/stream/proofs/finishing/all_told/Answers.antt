use Rattle.stream.proofs.CallLaws.{endings}
use Rattle.stream.proofs.finishing.all_told.Goals as goal

pub returns : goal.returns
returns c = search endings
