use Rattle.in_order.proofs.Surveying.{one_entry}
use Rattle.in_order.proofs.one_if_some.Goals as goal

pub returns-then-hints-eq0 : goal.returns-then-hints-eq0
returns-then-hints-eq0 c = search one_entry

pub returns : goal.returns
returns c = search one_entry
