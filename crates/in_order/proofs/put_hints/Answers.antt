use Rattle.in_order.proofs.Putting.{putting_hints}
use Rattle.in_order.proofs.put_hints.Goals as goal

pub loop-more-init : goal.loop-more-init
loop-more-init c = search putting_hints

pub hint_here-hint-requires : goal.hint_here-hint-requires
hint_here-hint-requires c = search putting_hints

pub put_hint-to-requires : goal.put_hint-to-requires
put_hint-to-requires c = search putting_hints

pub loop-more-preserved : goal.loop-more-preserved
loop-more-preserved c = search putting_hints

pub returns : goal.returns
returns c = search putting_hints
