use Rattle.sharing.proofs.AskLaws.{asks}
use Rattle.sharing.proofs.ask.Goals as goal

pub returns-then-not-fits : goal.returns-then-not-fits
returns-then-not-fits c = search asks

pub returns-then-customer-ge-CUSTOMERS : goal.returns-then-customer-ge-CUSTOMERS
returns-then-customer-ge-CUSTOMERS c = search asks

pub returns-then-stands-eq0 : goal.returns-then-stands-eq0
returns-then-stands-eq0 c = search asks

pub reply_at-requires : goal.reply_at-requires
reply_at-requires c = search asks

pub returns : goal.returns
returns c = search asks
