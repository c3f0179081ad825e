use Rattle.sharing.proofs.AskLaws.{row_answers}
use Rattle.sharing.proofs.asking.reply_at.Goals as goal

pub reply_in-requires-clause-size_fits : goal.reply_in-requires-clause-size_fits
reply_in-requires-clause-size_fits c = search row_answers

pub reply_from-requires-clause-size_fits : goal.reply_from-requires-clause-size_fits
reply_from-requires-clause-size_fits c = search row_answers

pub reply_from-requires-clause-size_bound : goal.reply_from-requires-clause-size_bound
reply_from-requires-clause-size_bound c = search row_answers
