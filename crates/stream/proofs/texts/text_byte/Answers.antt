use Rattle.stream.proofs.Leaves.{spelling}
use Rattle.stream.proofs.texts.text_byte.Goals as goal

pub returns-then-t-eq0 : goal.returns-then-t-eq0
returns-then-t-eq0 c = search spelling
