use Rattle.sharing.proofs.FindLaws.{holds}
use Rattle.sharing.proofs.rows.holds_payload.Goals as goal

pub loop-from-init : goal.loop-from-init
loop-from-init c = search holds

pub loop-from-preserved : goal.loop-from-preserved
loop-from-preserved c = search holds

pub returns-else-same_part : goal.returns-else-same_part
returns-else-same_part c = search holds

pub returns : goal.returns
returns c = search holds
