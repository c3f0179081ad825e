use Rattle.stream.proofs.Leaves.{counting}
use Rattle.stream.proofs.numbers.weight_of.Goals as goal

pub returns : goal.returns
returns c = search counting
