use Rattle.sharing.proofs.TidyLaws.{shiftings}
use Rattle.sharing.proofs.tidying.pack_blocks.Goals as goal

pub loop-b-init : goal.loop-b-init
loop-b-init c = search shiftings

pub loop-b-preserved-then-used-from : goal.loop-b-preserved-then-used-from
loop-b-preserved-then-used-from c = search shiftings

pub loop-b-preserved : goal.loop-b-preserved
loop-b-preserved c = search shiftings

pub returns : goal.returns
returns c = search shiftings
