use borrow.Author.Rules.{rules}
use Rattle.writing.proofs.Laws.{found_none, found_more, found_all}
use Rattle.writing.proofs.put_decimal.Goals as goal

pub loop-rest-init : goal.loop-rest-init
loop-rest-init c = search (found_none, rules)

pub loop-rest-preserved : goal.loop-rest-preserved
loop-rest-preserved c = search (found_more, rules)

pub returns : goal.returns
returns c = search (found_all, rules)
