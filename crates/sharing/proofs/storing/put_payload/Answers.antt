use Rattle.sharing.proofs.StoreLaws.{payloads_put}
use Rattle.sharing.proofs.storing.put_payload.Goals as goal

pub loop-from-init : goal.loop-from-init
loop-from-init c = search payloads_put

pub loop-from-preserved : goal.loop-from-preserved
loop-from-preserved c = search payloads_put

pub returns : goal.returns
returns c = search payloads_put
