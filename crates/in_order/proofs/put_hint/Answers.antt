use Rattle.in_order.proofs.Putting.{putting_hint}
use Rattle.in_order.proofs.put_hint.Goals as goal

pub returns : goal.returns
returns c = search putting_hint
