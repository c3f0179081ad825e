use Rattle.sharing.proofs.WholeLaws.{opens}
use Rattle.sharing.proofs.open.Goals as goal

pub returns-then-not-fits : goal.returns-then-not-fits
returns-then-not-fits c = search opens

pub returns-then-customer-ge-CUSTOMERS : goal.returns-then-customer-ge-CUSTOMERS
returns-then-customer-ge-CUSTOMERS c = search opens

pub open_unused-requires-clause-walkable : goal.open_unused-requires-clause-walkable
open_unused-requires-clause-walkable c = search opens

pub returns-then-hold-lt-HOLDS : goal.returns-then-hold-lt-HOLDS
returns-then-hold-lt-HOLDS c = search opens

pub returns : goal.returns
returns c = search opens
