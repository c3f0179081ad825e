use Rattle.through.proofs.TakenLaws.{taken_answers}
use Rattle.through.proofs.ask_bytes.Goals as goal

pub returns : goal.returns
returns c = search taken_answers
