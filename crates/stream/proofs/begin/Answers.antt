use Rattle.stream.specs.Stream.{begin}
use Rattle.stream.specs.Fields.{held}
use borrow.Author.Rules.{rules}
use Rattle.stream.proofs.begin.Goals as goal

pub returns : goal.returns
unfolding held begin
returns c = search rules
