use borrow.Author.Rules.{rules}
use Rattle.writing.proofs.Laws.{copied_more}
use Rattle.writing.proofs.put_bytes.Goals as goal

pub loop-k-preserved : goal.loop-k-preserved
loop-k-preserved c = search (copied_more, rules)
