use Rattle.metadata.proofs.TakenLaws.{taken_answers}
use Rattle.metadata.proofs.find_bytes.Goals as goal

pub returns : goal.returns
returns c = search taken_answers
