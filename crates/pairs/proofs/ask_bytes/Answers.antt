use Rattle.pairs.proofs.Laws.{handed_back}
use Rattle.pairs.proofs.ask_bytes.Goals as goal

pub returns : goal.returns
returns c = search handed_back
