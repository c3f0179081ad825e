use Rattle.in_order.proofs.Surveying.{one_entry}
use Rattle.in_order.proofs.entry_length.Goals as goal

pub returns-then-count-eq0 : goal.returns-then-count-eq0
returns-then-count-eq0 c = search one_entry

pub returns : goal.returns
returns c = search one_entry
