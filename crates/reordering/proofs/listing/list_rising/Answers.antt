use Rattle.reordering.proofs.Listings.{rising_lists}
use Rattle.reordering.proofs.listing.list_rising.Goals as goal

pub put_rows-requires : goal.put_rows-requires
put_rows-requires c = search rising_lists

pub returns-then-do_fit : goal.returns-then-do_fit
returns-then-do_fit c = search rising_lists

pub returns : goal.returns
returns c = search rising_lists
