use borrow.Author.Rules.{rules}
use Rattle.writing.proofs.Laws.{one_block, last_bytes}
use Rattle.writing.proofs.put_long.Goals as goal

pub loop-k-preserved : goal.loop-k-preserved
loop-k-preserved c = search (one_block, c.put_block.ensures, rules)

pub returns : goal.returns
returns c = search (last_bytes, rules)
