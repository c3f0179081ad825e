use Rattle.sharing.proofs.TidyLaws.{usings}
use Rattle.sharing.proofs.tidying.used_blocks.Goals as goal

pub loop-b-preserved-then-cover-gt0 : goal.loop-b-preserved-then-cover-gt0
loop-b-preserved-then-cover-gt0 c = search usings

pub loop-b-preserved : goal.loop-b-preserved
loop-b-preserved c = search usings

pub returns : goal.returns
returns c = search usings
