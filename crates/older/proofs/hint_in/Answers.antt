use Rattle.older.proofs.Answers.{askings}
use Rattle.older.proofs.hint_in.Goals as goal

pub returns : goal.returns
returns c = search (c.in_ok-held.ensures, askings)

pub returns-in_err-held : goal.returns-in_err-held
returns-in_err-held c = search (c.in_err-held.ensures, askings)
