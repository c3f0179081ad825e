use Rattle.in_order.proofs.Listing.{listing_row}
use Rattle.in_order.proofs.rows.put_row.Goals as goal

pub bounds-likely-at : goal.bounds-likely-at
bounds-likely-at c = search listing_row

pub returns : goal.returns
returns c = search listing_row
