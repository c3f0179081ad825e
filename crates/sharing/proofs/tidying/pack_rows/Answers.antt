use Rattle.sharing.proofs.TidyLaws.{rowings}
use Rattle.sharing.proofs.tidying.pack_rows.Goals as goal

pub loop-b-init : goal.loop-b-init
loop-b-init c = search rowings

pub loop-b-preserved-then-used-from : goal.loop-b-preserved-then-used-from
loop-b-preserved-then-used-from c = search rowings

pub loop-b-preserved : goal.loop-b-preserved
loop-b-preserved c = search rowings

pub returns : goal.returns
returns c = search rowings
