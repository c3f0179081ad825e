use Rattle.sharing.proofs.CloseLaws.{closes}
use Rattle.sharing.proofs.close.Goals as goal

pub returns-then-not-fits : goal.returns-then-not-fits
returns-then-not-fits c = search closes

pub returns-then-customer-ge-CUSTOMERS : goal.returns-then-customer-ge-CUSTOMERS
returns-then-customer-ge-CUSTOMERS c = search closes

pub returns-then-stands-eq0 : goal.returns-then-stands-eq0
returns-then-stands-eq0 c = search closes

pub release-requires : goal.release-requires
release-requires c = search closes

pub returns : goal.returns
returns c = search closes
