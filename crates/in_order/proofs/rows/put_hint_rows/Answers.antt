use Rattle.in_order.proofs.Listing.{listing_hints}
use Rattle.in_order.proofs.rows.put_hint_rows.Goals as goal

pub loop-init : goal.loop-init
loop-init c = search listing_hints

pub hint_here-hint-requires : goal.hint_here-hint-requires
hint_here-hint-requires c = search listing_hints

pub put_row-to-requires : goal.put_row-to-requires
put_row-to-requires c = search listing_hints

pub loop-preserved : goal.loop-preserved
loop-preserved c = search listing_hints

pub returns : goal.returns
returns c = search listing_hints
