use Rattle.names.proofs.TakenLaws.{taken_answers}
use Rattle.names.proofs.ask_bytes.Goals as goal

pub returns : goal.returns
returns c = search taken_answers
