use borrow.Author.Rules.{rules}
use Rattle.sharing.specs.Laws.Arrays.{zeros_start}
use Rattle.sharing.proofs.start.Goals as goal

pub returns : goal.returns
returns c = search (zeros_start, rules)
