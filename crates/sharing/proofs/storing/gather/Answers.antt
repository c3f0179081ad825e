use Rattle.sharing.proofs.StoreLaws.{gathers}
use Rattle.sharing.proofs.storing.gather.Goals as goal

pub loop-from-init : goal.loop-from-init
loop-from-init c = search gathers

pub loop-from-preserved : goal.loop-from-preserved
loop-from-preserved c = search (gathers, c.put_part.ensures, c.loop-from.invariant)

pub returns : goal.returns
returns c = search gathers
